-- What is kept of the frames of a link: a head of each, in order, and the frames whose call may not be over yet.
use Rattle.std.specs.Prelude.{◌≡◌, ℕ, zero, suc, ◌≤◌, ◌==◌, nat_le, Bool, true, false, not, ◌&&◌, is_some, Option, Some, None, List, length, slice_get, All}
use Rattle.std.specs.List.{find}
use Rattle.std.specs.Option.{option_map}
use Rattle.uid_names.specs.Wires.{IsWire}
use Rattle.dom_history.specs.declared.event.What.TheVariants.{Notice}
use Rattle.ring_messages.specs.Bodies.{is_request}
use Rattle.ring_messages.specs.Frames.{Message}
use Rattle.ring_messages.specs.declared.body.Body.{Body}
use Rattle.ring_messages.specs.declared.body.Body.TheVariants as bodies
use Rattle.node_runs.specs.Incomings.{Incoming}
use Rattle.node_runs.specs.NodeStates.{is_ended}
use Rattle.node_runs.specs.Runs.{World, numbered}
use Rattle.node_core.specs.Nodes.{Noted, given_of, state_of, program_of, is_enabled}
use Rattle.world_runs.specs.Gone.{was_told}
use Rattle.run_journals.specs.OverFrames.{is_over}
use Rattle.journal_check.specs.declared.frames.Head.{Head}
use Rattle.journal_check.specs.declared.frames.Live.{Live}

pub record Kept : Type 0 where
  pub heads : List Head
  pub live : List Live

-- a head keeps the ranges that a frame has
pub record IsHead (h : Head) : Type 0 where
  pub proc_low : 1 ≤ h.proc
  pub proc_high : h.proc ≤ 4
  pub number : 1 ≤ h.number
  pub tick : 1 ≤ h.tick
  pub version : IsWire h.version

-- the head of a frame, and whether the frame was told as lost or late
abbrev pub head_of : Message → Bool → Head
head_of m told = record { number = m.number; tick = m.tick; proc = m.proc; version = m.version; asks = is_request m.body; told = told }

-- the head of the frame of this number, counted from 1
abbrev pub head_at : ℕ → List Head → Option Head
head_at zero heads = None
head_at (suc k) heads = slice_get heads k

abbrev pub told_if : Bool → Option Head → Option Head
told_if true h = option_map (λ (x : Head). let y : Head = record x { told = true } in y) h
told_if false h = h

-- the frame of this number among those that live
abbrev pub live_at : ℕ → List Live → Option Message
live_at index live = option_map (λ l. l.frame) (find (λ l. l.index == index) live)

-- what a frame carries of which the head alone was kept
abbrev pub body_for : Bool → Body
body_for true = bodies.List None
body_for false = bodies.Done

abbrev pub bare_of : ℕ → ℕ → Head → Message
bare_of from to h = record { version = h.version; from = from; to = to; proc = h.proc; number = h.number; tick = h.tick; body = body_for h.asks }

-- a request of this process that is not above this one, at whose node this one was taken
abbrev pub is_served : ℕ → ℕ → Message → Bool
is_served proc number m = is_request m.body && ((m.proc == proc) && nat_le m.number number)

-- an answer to a call that is open no more at this node, by its tests
abbrev pub is_heard : {P : Type 0} → Noted P → ℕ → Message → Bool
is_heard x index m =
    not (is_request m.body) && (not (is_ended (given_of x) (state_of x))
    && (is_some (program_of x m.proc) && not (is_enabled x (Notice m.proc m.from m.to index) (Incoming.Gone m.number m.tick))))

-- of these frames, the last one first, of which some were told
pub record IsKeptBy (told : ℕ → Bool) (frames : List Message) (IsOver : Message → Type 0) (k : Kept) : Type 0 where
  pub count : length k.heads ≡ length frames
  pub heads : (index : ℕ) → head_at index k.heads ≡ option_map (λ m. head_of m (told index)) (numbered index frames)
  pub told_are : (index : ℕ) → told index ≡ true → index ≤ length frames
  -- the frames themselves, but for those whose call is over
  pub live : All (λ l. numbered l.index frames ≡ Some l.frame) k.live
  pub over : (index : ℕ) (m : Message) → live_at index k.live ≡ None → numbered index frames ≡ Some m → IsOver m

-- of what was sent on a link: a frame goes once its call is over where it was sent
abbrev pub IsKeptOf : World → ℕ → ℕ → Kept → Type 0
IsKeptOf w from to k = IsKeptBy (λ index. was_told w.done (from, to, index)) (w.frames from to) (λ m. is_over (w.nodes to) m ≡ true) k
