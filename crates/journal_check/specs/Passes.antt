-- What a pass stands for: the world to which the events led that it did, with the nodes, and of what was sent as much as may still be received.
use Rattle.std.specs.Prelude.{◌≡◌, ◌⊎◌, ℕ, ◌+◌, ◌-◌, ◌*◌, ◌^◌, ◌<◌, ◌&&◌, Bool, true, max, Option, Some, None, IfSome, List, [], ◌∷◌, length, map, reverse, slice_get}
use Rattle.std.specs.Option.{option_map}
use Rattle.uid_names.specs.Names.{ProcName}
use Rattle.uid_names.specs.declared.ids.Place.{Place}
use Rattle.dom_history.specs.declared.op.Reply.{Reply}
use Rattle.dom_history.specs.declared.op.Want.{Want}
use Rattle.dom_history.specs.declared.event.What.{What}
use Rattle.dom_history.specs.declared.event.What.TheVariants.{Begin, Go, Take, Notice, Ready, Mark}
use Rattle.dom_history.specs.Events.{Happening}
use Rattle.ring_messages.specs.Frames.{Message}
use Rattle.fault_handler.specs.Desks.{IsNode}
use Rattle.node_runs.specs.Setups.{Setup, Given, IsSetup, given}
use Rattle.node_runs.specs.Incomings.{Incoming, enabled, tick_of}
use Rattle.node_runs.specs.CallsKeep.{EachOf}
use Rattle.node_runs.specs.Runs as runs
use Rattle.node_runs.specs.Runs.{World, is_above, numbered, marked, mark_of, told_of, world_of}
use Rattle.world_runs.specs.Gone.{was_told}
use Rattle.node_core.specs.Nodes.{Noted, Stands, is_enabled}
use Rattle.node_core.specs.Receivings.{seen}
use Rattle.node_core.specs.declared.setup.Incoming as code
use Rattle.run_journals.specs.RecentRuns.{IsRecentRun}
use Rattle.run_journals.specs.OverFrames.{is_over, bare}
use Rattle.journal_check.specs.Links.{at_link}
use Rattle.journal_check.specs.Judged.{TellsAgain}
use Rattle.journal_check.specs.Kept.{Kept, IsKeptOf}
use Rattle.journal_check.specs.Changes.{AreOfNodes}
use Rattle.journal_check.specs.declared.pass.Pass.{Pass}
use Rattle.journal_check.specs.declared.pass.SentMark.{SentMark}
use Rattle.journal_check.specs.declared.pass.Shown.{Shown}

-- the place of the last event
abbrev pub last_place : List Happening → Option Place
last_place [] = None
last_place (e ∷ older) = Some e.place

-- a mark, as the definitions have it
abbrev pub mark_seen : SentMark → runs.SentMark
mark_seen m = record { node = m.node; phase = m.phase; tick = m.tick }

-- the mark of a phase that a node sent, if it sent one
abbrev pub marks_sent : Option ℕ → ℕ → ℕ → List SentMark
marks_sent None node tick = []
marks_sent (Some phase) node tick = record { node = node; phase = phase; tick = tick } ∷ []

-- a pass has few nodes, and something of each link between two
abbrev pub HasLinks : {P G : Type 0} → Pass P G → Type 0
HasLinks p = AreOfNodes (length p.nodes.items) p.frames.items

-- an event is enabled at a node of the pass, as far as the node tells
abbrev pub IsEnabledAt : {P G : Type 0} → Pass P G → ℕ → What → Incoming → Type 0
IsEnabledAt p n what incoming = IfSome (slice_get p.nodes.items (n - 1)) (λ x. is_enabled x what incoming ≡ true)

-- the programs of all nodes as they were made, by node and process
abbrev pub Made : Type 0 → Type 0
Made P = ℕ → ℕ → Option P

-- what a frame that is taken is: what was sent, or where its call is over there, its head
abbrev pub IsFrameFor : World → ℕ → Message → Incoming → Type 0
IsFrameFor w to m (Incoming.Frame f) = (f ≡ m) ⊎ ((f ≡ bare m) × (is_over (w.nodes to) m ≡ true))
IsFrameFor w to m incoming = ⊥

abbrev pub IsTakenOf : World → ℕ → Option Message → Option code.Incoming → Type 0
IsTakenOf w to None None = Unit {0}
IsTakenOf w to (Some m) (Some i) = IsFrameFor w to m (seen i)
IsTakenOf w to m i = ⊥

abbrev pub IsTakenAs : World → ℕ → ℕ → ℕ → Option code.Incoming → Type 0
IsTakenAs w from to index taken = IsTakenOf w to (numbered index (w.frames from to)) taken

-- a frame that is kept by its number was sent; where none is, none was, or its call is over where it was sent
abbrev pub IsKeptAs : World → ℕ → ℕ → ℕ → Option Message → Type 0
IsKeptAs w from to index None = (m : Message) → numbered index (w.frames from to) ≡ Some m → is_over (w.nodes to) m ≡ true
IsKeptAs w from to index (Some m) = numbered index (w.frames from to) ≡ Some m

-- what a Notice receives, and whether its frame was told before
abbrev pub IsToldBy : World → ProcName → ℕ → ℕ → ℕ → Option (code.Incoming × Bool) → Type 0
IsToldBy w caller from to index told =
    (option_map (λ t. seen t.0) told ≡ told_of caller (numbered index (w.frames from to))) × IfSome told (λ t. t.1 ≡ was_told w.done (from, to, index))

-- what an event receives, and whether the frame of which it tells was told before
abbrev pub IsReceived : World → ℕ → What → Option (code.Incoming × Bool) → Type 0
IsReceived w n (Begin p) got = option_map (λ t. seen t.0) got ≡ Some Incoming.Nothing
IsReceived w n (Go p) got = option_map (λ t. seen t.0) got ≡ Some Incoming.Nothing
IsReceived w n (Ready phase) got = option_map (λ t. seen t.0) got ≡ Some Incoming.Nothing
IsReceived w n (Take from index) got = IsTakenAs w from n index (option_map (λ t. t.0) got)
IsReceived w n (Notice p from to index) got = IsToldBy w (record { node = n; number = p }) from to index got
IsReceived w n (Mark from phase) got = option_map (λ t. seen t.0) got ≡ marked (mark_of w from phase)

module _ {P : Type 0} (wants : P → Want) (becomes : P → Option Reply → P) (made : Made P) (s : Setup) where
  -- all nodes, by number, stand for those of a world
  pub record AreNodesOf (w : World) (xs : List (Noted P)) : Type 0 where
    pub count : length xs ≡ s.opening.nodes
    pub node : (n : ℕ) (x : Noted P) → slice_get xs n ≡ Some x → Stands wants becomes (made (n + 1)) (given s (n + 1)) x (w.nodes (n + 1))

  -- each link has what is kept of it
  pub record AreLinksOf (w : World) (xs : List Kept) : Type 0 where
    pub count : length xs ≡ s.opening.nodes * s.opening.nodes
    -- and there are no others on which frames were sent
    pub named : (from to : ℕ) → EachOf (λ m. IsNode s.opening.nodes from × IsNode s.opening.nodes to) (w.frames from to)
    pub link : (from to : ℕ) → IsNode s.opening.nodes from → IsNode s.opening.nodes to → IfSome (at_link s.opening.nodes from to xs) (IsKeptOf w from to)

  module _ {G : Type 0} where
    -- the pass did a recent run, which led to this world
    pub record StandsFor (p : Pass P G) (w : World) : Type 0 where
      pub setup : IsSetup s
      pub run : IsRecentRun s w.done
      pub leads : world_of s w.done ≡ Some w
      pub nodes : AreNodesOf w p.nodes.items
      pub links : AreLinksOf w p.frames.items
      pub marks : map mark_seen (reverse p.marks.items) ≡ w.marks
      pub last : p.last ≡ last_place w.done

    -- this event happened, the only one that could, by what it received, and the pass stands for the world behind it
    pub record IsShown (w : World) (n : ℕ) (what : What) (new : Pass P G) (shown : Shown) : Type 0 where
      pub got : IsReceived w n what (Some (shown.received, shown.again))
      pub again : TellsAgain w.done what shown.again
      pub world : World
      pub done : world.done ≡ shown.event ∷ w.done
      pub stands : StandsFor new world
      pub node_is : shown.event.place.node ≡ n
      pub what_is : shown.event.what ≡ what
      pub only : (e : Happening) → e.place.node ≡ n → e.what ≡ what → IsRecentRun s (e ∷ w.done) → e ≡ shown.event

    -- no event of the node can be it, and the pass stands for what it stood for
    pub record IsNotShown (w : World) (n : ℕ) (what : What) (new : Pass P G) : Type 0 where
      pub stands : StandsFor new w
      pub none : (e : Happening) → e.place.node ≡ n → e.what ≡ what → IsRecentRun s (e ∷ w.done) → ⊥

    abbrev pub IsStep : World → ℕ → What → Pass P G → Option Shown → Type 0
    IsStep w n what new None = IsNotShown w n what new
    IsStep w n what new (Some shown) = IsShown w n what new shown

-- an event that receives this may follow: it is enabled, and stands above the last one
abbrev pub may_follow : Given → World → ℕ → What → Incoming → Bool
may_follow g w n what incoming = enabled g (w.nodes n) what incoming && is_above (record { tick = max (w.nodes n).tick (tick_of incoming) + 1; node = n }) w.done

-- an event of a node may happen next, of few, that receives this and tells of a frame that was told before or was not
pub record MayHappen {P G : Type 0} (wants : P → Want) (becomes : P → Option Reply → P) (made : Made P) (s : Setup) (p : Pass P G) (w : World) (n : ℕ) (what : What) (i : code.Incoming) (again : Bool) : Type 0 where
  pub stands : StandsFor wants becomes made s p w
  pub few : length w.done < 2 ^ 40
  pub got : IsReceived w n what (Some (i, again))
  pub may : may_follow (given s n) w n what (seen i) ≡ true
