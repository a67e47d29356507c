-- How a process comes on at an event.
use Rattle.std.specs.Prelude.{◌≡◌, ◌≢◌, ℕ, ◌+◌, true, ◌⊎◌, Option, Some, None, ◌∷◌}
use Rattle.uid_names.specs.Names.{ProcName}
use Rattle.dom_history.specs.declared.op.Op.{Op}
use Rattle.dom_history.specs.declared.op.Reply.{Reply}
use Rattle.dom_history.specs.declared.op.Want.{Want}
use Rattle.dom_history.specs.declared.op.Want.TheVariants.{Do, Phase, Done}
use Rattle.dom_history.specs.Follows.{Heard}
use Rattle.ring_messages.specs.Bodies.{Ask, ask_of}
use Rattle.ring_messages.specs.Frames.{Message}
use Rattle.fault_handler.specs.Invariant.{IsProc}
use Rattle.node_runs.specs.Setups.{Given}
use Rattle.node_runs.specs.NodeStates.{Asked, Await, BegunOp, OpenOp, ProcState, NodeState, proc_of, name_of}
use Rattle.node_runs.specs.Incomings.{Incoming}
use Rattle.node_runs.specs.Notes.{Told, Note}
use Rattle.node_runs.specs.Outcomes.{Stepped}
use Rattle.node_runs.specs.Doings.{noticed_call}
use Rattle.node_runs.specs.Dones.{asking}
use Rattle.node_runs.specs.RunHistories.{is_fault}

-- a call that settles its operation: a page or a length does not
abbrev pub IsSettling : Ask → Type 0
IsSettling (Ask.PageIn u k) = ⊥
IsSettling (Ask.PageOut u k grant base bytes) = ⊥
IsSettling (Ask.AttrOut u n grant base) = ⊥
IsSettling ask = Unit {0}

-- the event takes a reply to a call of this process that settles its operation
pub record IsAnswered (incoming : Incoming) (p : ℕ) (c : Asked) : Type 0 where
  pub frame : Message
  pub received : incoming ≡ Incoming.Frame frame
  pub replies : ask_of frame.body ≡ None
  pub proc : frame.proc ≡ p
  pub number : frame.number ≡ c.waiting.number
  pub settling : IsSettling c.ask

-- a call that brings or sends a page or a length, and does not settle its operation
abbrev pub IsPart : Await → Type 0
IsPart (Await.Answer c) = IsSettling c.ask → ⊥
IsPart (Await.Page u k) = Unit {0}

abbrev pub IsPartDoing : Option OpenOp → Type 0
IsPartDoing None = Unit {0}
IsPartDoing (Some o) = IsPart o.awaits

-- what it awaits now is a new call, or a page
abbrev pub IsNewAwait : ProcState → ProcState → Await → Type 0
IsNewAwait old new (Await.Answer c) = (c.waiting.number ≡ old.last + 1) × (new.last ≡ c.waiting.number)
IsNewAwait old new (Await.Page u k) = new.last ≡ old.last

-- its program is told no more, and stays in its phase
pub record IsUntold (old new : ProcState) : Type 0 where
  pub heard : new.heard ≡ old.heard
  pub phase : new.phase ≡ old.phase

-- its program is told of the end of its operation
pub record IsEnd (old new : ProcState) (reply : Reply) : Type 0 where
  pub doing : new.doing ≡ None
  pub last : new.last ≡ old.last
  pub heard : new.heard ≡ Some reply ∷ old.heard
  pub phase : new.phase ≡ old.phase

abbrev pub told_of : ProcName → ProcState → BegunOp → ℕ → Reply → Told
told_of p old o number reply = record { proc = p; phase = old.phase; op = o.op; begun = o.begun; number = number; reply = reply }

-- an operation began, and is open; one goes on, or its call is sent again; one is done at the desk, or ended by a link
-- fault or an answer; the program came to the end of a phase, or of all
pub data Progress (ask : Heard → Want) (p : ProcName) (tick : ℕ) (incoming : Incoming) (old new : ProcState) (note : Note) : Type 0 where
  opens : (op : Op) (a : Await) → ask old.heard ≡ Do op → old.doing ≡ None → new.doing ≡ Some (record { began = record { op = op; begun = record { tick = tick; node = p.node } }; awaits = a })
      → IsNewAwait old new a → IsUntold old new → note ≡ Note.Began p op → Progress ask p tick incoming old new note
  goes_on : (o : BegunOp) (a b : Await) → IsPart a → old.doing ≡ Some (record { began = o; awaits = a }) → new.doing ≡ Some (record { began = o; awaits = b }) → IsNewAwait old new b → IsUntold old new → note ≡ Note.Nothing
      → Progress ask p tick incoming old new note
  again : (o : BegunOp) (c : Asked) → old.doing ≡ asking o c → new.doing ≡ asking o (noticed_call c) → new.last ≡ old.last → IsUntold old new → note ≡ Note.Nothing → Progress ask p tick incoming old new note
  did : (op : Op) (reply : Reply) → IsPartDoing old.doing → ask old.heard ≡ Do op → IsEnd old new reply → note ≡ Note.Did p old.phase op reply → Progress ask p tick incoming old new note
  told : (o : BegunOp) (c : Asked) (reply : Reply) → ask old.heard ≡ Do o.op → old.doing ≡ asking o c → IsEnd old new reply → note ≡ Note.Ended (told_of p old o c.waiting.number reply)
      → (is_fault reply ≡ true) ⊎ IsAnswered incoming p.number c → Progress ask p tick incoming old new note
  pauses : old.doing ≡ None → ask old.heard ≡ Phase → new.doing ≡ None → new.last ≡ old.last → new.heard ≡ None ∷ old.heard → new.phase ≡ old.phase + 1 → note ≡ Note.Nothing → Progress ask p tick incoming old new note
  is_done : old.doing ≡ None → ask old.heard ≡ Done → new.doing ≡ None → new.last ≡ old.last → new.heard ≡ old.heard → note ≡ Note.Nothing → Progress ask p tick incoming old new note

-- a home's decision, or nothing
abbrev pub IsApart : Note → Type 0
IsApart Note.Nothing = Unit {0}
IsApart (Note.Decided p number ask answer) = Unit {0}
IsApart note = ⊥

-- one process comes on, or none
pub data ProcStep (g : Given) (n : NodeState) (incoming : Incoming) (s : Stepped) : Type 0 where
  rests : ((q : ℕ) → proc_of s.node q ≡ proc_of n q) → IsApart s.note → ProcStep g n incoming s
  comes : (p : ℕ) → IsProc p → ((q : ℕ) → IsProc q → q ≢ p → proc_of s.node q ≡ proc_of n q) → Progress (g.asks p) (name_of g p) n.tick incoming (proc_of n p) (proc_of s.node p) s.note → ProcStep g n incoming s
