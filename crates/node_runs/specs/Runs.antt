-- Runs of all nodes. A list of events has the last one first.
use Rattle.std.specs.Prelude.{◌≡◌, ℕ, ◌+◌, ◌==◌, Bool, true, false, if◌then◌else◌, ◌&&◌, Option, Some, None, List, [], ◌∷◌, length, map}
use Rattle.std.specs.List.{find}
use Rattle.std.specs.Option.{option_map}
use Rattle.uid_names.specs.Names.{ProcName, ObjectName, same_proc}
use Rattle.uid_names.specs.declared.ids.Place.{Place}
use Rattle.dom_history.specs.declared.event.What.{What}
use Rattle.dom_history.specs.declared.event.What.TheVariants.{Begin, Go, Take, Notice, Ready, Mark}
use Rattle.dom_history.specs.Events.{Happening}
use Rattle.dom_history.specs.Histories.{place_lt}
use Rattle.dom_history.specs.Objects.{is_node}
use Rattle.ring_messages.specs.Frames.{Message, caller_of}
use Rattle.node_runs.specs.Setups.{Setup, given}
use Rattle.node_runs.specs.NodeStates.{Asked, NodeState, first_node, is_ended}
use Rattle.node_runs.specs.Incomings.{Incoming}
use Rattle.node_runs.specs.Notes.{Note}
use Rattle.node_runs.specs.Outcomes.{Stepped}
use Rattle.node_runs.specs.Steps.{step_of}

-- finite maps are functions, which are changed at one key
abbrev pub put : {A : Type 0} → (ℕ → A) → ℕ → A → ℕ → A
put f k new i = if i == k then new else f i

-- the item that came as this one, counted from 1, of a list with the last one first
abbrev pub numbered : {A : Type 0} → ℕ → List A → Option A
numbered k [] = None
numbered k (x ∷ older) = if k == length older + 1 then Some x else numbered k older

-- a mark that was sent
pub record SentMark : Type 0 where
  pub node : ℕ
  pub phase : ℕ
  pub tick : ℕ

-- what an event left for the history
pub record Noted : Type 0 where
  pub place : Place
  pub note : Note

-- all nodes; on each link the frames that were ever sent; the marks that were sent; the calls that each process ever
-- made, of which the first has the number 1; what was done, and what it left for the history. The last come first
pub record World : Type 0 where
  pub nodes : ℕ → NodeState
  pub frames : ℕ → ℕ → List Message
  pub marks : List SentMark
  pub calls : ℕ → ℕ → List Asked
  pub done : List Happening
  pub trace : List Noted

abbrev pub first_world : Setup → World
first_world s =
    record { nodes = λ n. first_node (given s n); frames = λ from to. []; marks = []; calls = λ n p. []; done = []; trace = [] }

-- what is free in a run: which node does what, and the pages that it drops
pub record Choice : Type 0 where
  pub node : ℕ
  pub what : What
  pub dropped : List (ObjectName × ℕ)

abbrev pub choice_of : Happening → Choice
choice_of e = record { node = e.place.node; what = e.what; dropped = e.effects.dropped }

abbrev pub taken : Option Message → Option Incoming
taken None = None
taken (Some m) = Some (Incoming.Frame m)

-- a lost or late frame is told to the process whose call it is of
abbrev pub told_if : Bool → Message → Option Incoming
told_if true m = Some (Incoming.Gone m.number m.tick)
told_if false m = None

abbrev pub told_of : ProcName → Option Message → Option Incoming
told_of p None = None
told_of p (Some m) = told_if (same_proc (caller_of m) p) m

abbrev pub marked : Option SentMark → Option Incoming
marked None = None
marked (Some m) = Some (Incoming.Mark m.tick)

abbrev pub mark_of : World → ℕ → ℕ → Option SentMark
mark_of w from phase = find (λ m. (m.node == from) && (m.phase == phase)) w.marks

-- what the event receives; None where nothing of the kind was sent
abbrev pub incoming_of : World → ℕ → What → Option Incoming
incoming_of w n (Begin p) = Some Incoming.Nothing
incoming_of w n (Go p) = Some Incoming.Nothing
incoming_of w n (Take from index) = taken (numbered index (w.frames from n))
incoming_of w n (Notice p from to index) = told_of (record { node = n; number = p }) (numbered index (w.frames from to))
incoming_of w n (Ready phase) = Some Incoming.Nothing
incoming_of w n (Mark from phase) = marked (mark_of w from phase)

abbrev pub frames_after : World → ℕ → Option Message → ℕ → ℕ → List Message
frames_after w n None = w.frames
frames_after w n (Some m) = put w.frames n (put (w.frames n) m.to (m ∷ w.frames n m.to))

abbrev pub marks_after : World → ℕ → ℕ → What → List SentMark
marks_after w n tick (Ready phase) = record { node = n; phase = phase; tick = tick } ∷ w.marks
marks_after w n tick what = w.marks

abbrev pub calls_after : World → ℕ → Option (ℕ × Asked) → ℕ → ℕ → List Asked
calls_after w n None = w.calls
calls_after w n (Some made) = put w.calls n (put (w.calls n) made.0 (made.1 ∷ w.calls n made.0))

abbrev pub world_with : World → Place → What → Stepped → World
world_with w place what s =
    record {
      nodes = put w.nodes place.node s.node;
      frames = frames_after w place.node s.frame;
      marks = marks_after w place.node place.tick what;
      calls = calls_after w place.node s.call;
      done = record { place = place; what = what; effects = s.effects } ∷ w.done;
      trace = record { place = place; note = s.note } ∷ w.trace;
    }

-- the place is above that of the last event
abbrev pub is_above : Place → List Happening → Bool
is_above place [] = true
is_above place (e ∷ older) = place_lt e.place place

abbrev pub world_if : Bool → World → Place → What → Stepped → Option World
world_if true w place what s = Some (world_with w place what s)
world_if false w place what s = None

abbrev pub world_at : World → Place → What → Stepped → Option World
world_at w place what s = world_if (is_above place w.done) w place what s

abbrev pub after_step : World → Choice → Option Stepped → Option World
after_step w c None = None
after_step w c (Some s) = world_at w (record { tick = s.node.tick; node = c.node }) c.what s

abbrev pub receiving : Setup → World → Choice → Option Incoming → Option World
receiving s w c None = None
receiving s w c (Some incoming) = after_step w c (step_of (given s c.node) (w.nodes c.node) c.what incoming c.dropped)

abbrev pub next_if : Bool → Setup → World → Choice → Option World
next_if true s w c = receiving s w c (incoming_of w c.node c.what)
next_if false s w c = None

-- the world after one event more; None where that event may not happen
abbrev pub next : Setup → World → Choice → Option World
next s w c = next_if (is_node s.opening c.node) s w c

abbrev pub then_next : Setup → Option World → Choice → Option World
then_next s None c = None
then_next s (Some w) c = next s w c

-- the world after events, chosen so
abbrev pub world_after : Setup → List Choice → Option World
world_after s [] = Some (first_world s)
world_after s (c ∷ older) = then_next s (world_after s older) c

-- the world after these events
abbrev pub world_of : Setup → List Happening → Option World
world_of s es = world_after s (map choice_of es)

-- they are the events of a run: each may happen after those before it, with just these effects
abbrev pub IsRun : Setup → List Happening → Type 0
IsRun s es = option_map (λ w. w.done) (world_of s es) ≡ Some es

-- each node has ended
abbrev pub HasEnded : Setup → World → Type 0
HasEnded s w = (n : ℕ) → is_node s.opening n ≡ true → is_ended (given s n) (w.nodes n) ≡ true

-- each event stands above the one before it
abbrev pub AreRising : List Happening → Type 0
AreRising [] = Unit {0}
AreRising (e ∷ older) = (is_above e.place older ≡ true) × AreRising older
