-- What an entry of a ring is to the node at its end.
use Rattle.std.specs.Prelude.{◌≡◌, ℕ, ◌==◌, Bool, true, false, List, [], ◌∷◌, ◌++◌}
use Rattle.dom_history.specs.declared.event.What.{What}
use Rattle.dom_history.specs.declared.event.What.TheVariants as events
use Rattle.ring_messages.specs.Frames.{Message}
use Rattle.ring_messages.specs.Spelled.{Spells}
use Rattle.node_runs.specs.Incomings.{Incoming}
use Rattle.ring_links.specs.declared.entry.Waiting.{Waiting}
use Rattle.ring_links.specs.declared.entry.Waiting.TheVariants as waiting
use Rattle.wire_links.specs.declared.carried.Parcel.{Parcel}
use Rattle.wire_links.specs.declared.carried.Parcel.TheVariants as parcel
use Rattle.wire_links.specs.declared.carried.Carried.{Carried}
use Rattle.wire_links.specs.declared.carried.Carried.TheVariants as carried
use Rattle.wire_links.specs.declared.wire.WireIn.{WireIn}
use Rattle.wire_links.specs.Wires.{taken}
use Rattle.node_posts.specs.Ends.{AllZipFrom}

-- a copy has a frame's bytes, and is taken as that frame; a mark has its tick; no wire puts any other entry
abbrev pub IsEntryEvent : ℕ → Waiting → Parcel → What → Incoming → Type 0
IsEntryEvent from (waiting.Copy index) (parcel.Frame bytes) what incoming = (what ≡ events.Take from index) × ((m : Message) × Spells m bytes × (incoming ≡ Incoming.Frame m))
IsEntryEvent from (waiting.Mark phase) (parcel.Mark tick) what incoming = (what ≡ events.Mark from phase) × (incoming ≡ Incoming.Mark tick)
IsEntryEvent from (waiting.Copy index) (parcel.Mark tick) what incoming = ⊥
IsEntryEvent from (waiting.Mark phase) (parcel.Frame bytes) what incoming = ⊥

-- the event of what came out of the ring from a node to another, and what it receives
abbrev pub IsEventFor : ℕ → ℕ → Carried → What → Incoming → Type 0
IsEventFor from to (carried.Put e) what incoming = IsEntryEvent from e.waiting e.received what incoming
IsEventFor from to (carried.Gone proc number index tick) what incoming = (what ≡ events.Notice proc from to index) × (incoming ≡ Incoming.Gone number tick)

-- it has none
abbrev pub IsEntryOdd : Waiting → Parcel → Type 0
IsEntryOdd (waiting.Copy index) (parcel.Mark tick) = Unit {0}
IsEntryOdd (waiting.Mark phase) (parcel.Frame bytes) = Unit {0}
IsEntryOdd (waiting.Copy index) (parcel.Frame bytes) = ⊥
IsEntryOdd (waiting.Mark phase) (parcel.Mark tick) = ⊥

abbrev pub IsOdd : Carried → Type 0
IsOdd (carried.Put e) = IsEntryOdd e.waiting e.received
IsOdd (carried.Gone proc number index tick) = ⊥

-- what came out of the ring at a place, and nothing out of the others
abbrev pub come_if : Bool → Carried → List Carried
come_if true x = x ∷ []
come_if false x = []

abbrev pub AreTaken : (ℕ → List Carried) → List WireIn → List WireIn → Type 0
AreTaken xs olds news = AllZipFrom (λ at i j. taken j ≡ taken i ++ xs at) 0 olds news
