-- What an event does to the desk of its node, and to the open calls of its processes: one case for each kind, of which what
-- is said of a node alone goes on.
use Rattle.std.specs.Prelude.{◌≡◌, ◌≢◌, ℕ, nat_le, ◌&&◌, true, false, ◌⊎◌, Option, Some, None, []}
use Rattle.uid_names.specs.Names.{ProcName}
use Rattle.uid_names.specs.Openings.{Start}
use Rattle.dom_history.specs.declared.op.Op.{Op}
use Rattle.dom_history.specs.declared.op.Op.TheVariants as ops
use Rattle.dom_history.specs.declared.op.Reply.{Reply}
use Rattle.dom_history.specs.declared.op.Reply.TheVariants.{NoSpace, Locks, LinkFault}
use Rattle.dom_history.specs.Objects.{is_node}
use Rattle.ring_messages.specs.Bodies.{Ask, Answer, body_of_answer}
use Rattle.ring_messages.specs.Frames.{Message}
use Rattle.fault_handler.specs.Desks.{DeskState}
use Rattle.fault_handler.specs.Outcomes.{Turn, Moved}
use Rattle.fault_handler.specs.Invariant.{IsProc}
use Rattle.lock_validate.specs.Causes.{Cause, MayCome, IsOf}
use Rattle.lock_validate.specs.Turns.{IsMade}
use Rattle.node_runs.specs.Setups.{Given}
use Rattle.node_runs.specs.NodeStates.{Asked, Await, BegunOp, OpenOp, ProcState, NodeState, proc_of, name_of}
use Rattle.node_runs.specs.Operations.{Said, said_to_new, said_to_list}
use Rattle.node_runs.specs.Incomings.{Incoming}
use Rattle.node_runs.specs.Notes.{Note}
use Rattle.node_runs.specs.Outcomes.{Stage, Stepped, next_call, end_note, open_note}
use Rattle.node_runs.specs.Dones.{asking, waiting}
use Rattle.run_laws.specs.LastCalls.{HasNumber, IsOpenNumber}
use Rattle.run_laws.specs.Progress.{IsApart}

-- the event takes a reply that gives this answer to the process's open call
pub record Takes (incoming : Incoming) (p : ℕ) (doing : Option OpenOp) (answer : Answer) : Type 0 where
  pub frame : Message
  pub received : incoming ≡ Incoming.Frame frame
  pub proc : frame.proc ≡ p
  pub number : IsOpenNumber frame.number doing
  pub body : frame.body ≡ body_of_answer answer

-- what an answer tells the desk is told by the reply that the event takes
abbrev pub IsTaken : Incoming → (d : DeskState) (p : ℕ) → Option OpenOp → (c : Cause) → MayCome d p c → Type 0
IsTaken incoming d p doing (Cause.PageCame a) may = Takes incoming p doing may.answer
IsTaken incoming d p doing (Cause.AnswerCame a) may = Takes incoming p doing may.answer
IsTaken incoming d p doing c may = Unit {0}

-- an operation begins or goes on with an access, a lock or a release, goes on with a page that came, and is settled by the
-- answer to another call or by a link fault
abbrev pub IsStageOf : Stage → Cause → Type 0
IsStageOf Stage.Starts (Cause.Accesses op) = Unit {0}
IsStageOf Stage.Starts (Cause.Locks u m) = Unit {0}
IsStageOf Stage.Starts (Cause.Releases delete u) = Unit {0}
IsStageOf Stage.Resumes (Cause.Accesses op) = Unit {0}
IsStageOf Stage.Resumes (Cause.Releases delete u) = Unit {0}
IsStageOf Stage.Resumes (Cause.PageCame a) = Unit {0}
IsStageOf (Stage.Settles number) (Cause.AnswerCame a) = Unit {0}
IsStageOf (Stage.Settles number) (Cause.AccessFailed t) = Unit {0}
IsStageOf (Stage.Settles number) (Cause.CallFailed call) = Unit {0}
IsStageOf stage c = ⊥

-- what a home's answer says to a new object or a list
abbrev pub TellsHome : Op → Answer → Reply → Type 0
TellsHome (ops.New home kind room) answer reply = said_to_new answer ≡ Some (Said.Replies reply)
TellsHome (ops.List home after) answer reply = said_to_list answer ≡ Some (Said.Replies reply)
TellsHome op answer reply = ⊥

abbrev pub IsOfHome : Op → Type 0
IsOfHome (ops.New home kind room) = Unit {0}
IsOfHome (ops.List home after) = Unit {0}
IsOfHome op = ⊥

-- the one call of a new object or a list is the one that its operand gives
abbrev pub IsHomeAsk : Op → ℕ → Ask → Type 0
IsHomeAsk (ops.New home kind room) to ask = (to ≡ home) × (ask ≡ Ask.Make kind room)
IsHomeAsk (ops.List home after) to ask = (to ≡ home) × (ask ≡ Ask.ListLocks after)
IsHomeAsk op to ask = ⊥

-- it is made where its home is a node, and the room of a new object not too great; else the operation is refused
abbrev pub IsHomeBegin : Start → Op → Turn → Type 0
IsHomeBegin opening (ops.New home kind room) (Turn.Ends reply) = (reply ≡ NoSpace) × ((is_node opening home && nat_le room opening.greatest) ≡ false)
IsHomeBegin opening (ops.New home kind room) (Turn.Asks to ask) = IsHomeAsk (ops.New home kind room) to ask × ((is_node opening home && nat_le room opening.greatest) ≡ true)
IsHomeBegin opening (ops.List home after) (Turn.Ends reply) = (reply ≡ Locks [] false) × (is_node opening home ≡ false)
IsHomeBegin opening (ops.List home after) (Turn.Asks to ask) = IsHomeAsk (ops.List home after) to ask × (is_node opening home ≡ true)
IsHomeBegin opening op turn = ⊥

-- the turn of an operation in which the desk has no part: a new object, or a list
abbrev pub IsHomeTurn : Start → Incoming → ℕ → Option OpenOp → Stage → Op → Turn → Type 0
IsHomeTurn opening incoming p doing Stage.Starts op turn = IsHomeBegin opening op turn
IsHomeTurn opening incoming p doing (Stage.Settles number) op (Turn.Ends reply) = IsOfHome op × ((reply ≡ LinkFault) ⊎ ((answer : Answer) × Takes incoming p doing answer × TellsHome op answer reply))
IsHomeTurn opening incoming p doing stage op turn = ⊥

-- what an operation made of the desk: nothing, or what a call of the desk makes
pub data OpMove (opening : Start) (incoming : Incoming) (doing : Option OpenOp) (stage : Stage) (d : DeskState) (p : ℕ) (op : Op) (m : Moved) : Type 0 where
  apart : m.desk ≡ d → IsHomeTurn opening incoming p doing stage op m.turn → OpMove opening incoming doing stage d p op m
  moves : (c : Cause) (may : MayCome d p c) → IsOf d p c op → IsStageOf stage c → IsTaken incoming d p doing c may → IsMade c p d m → OpMove opening incoming doing stage d p op m

-- what the process awaits then
abbrev pub doing_after : BegunOp → ProcState → Turn → Option OpenOp
doing_after o q (Turn.Ends reply) = None
doing_after o q (Turn.Asks home ask) = asking o (next_call q home ask)
doing_after o q (Turn.Waits u k) = waiting o u k

-- an open operation awaits the same still: its call is the same one, and asks the same of the same home
abbrev pub IsSameAwait : Await → Await → Type 0
IsSameAwait (Await.Answer c) (Await.Answer k) = (k.home ≡ c.home) × (k.ask ≡ c.ask) × (k.waiting.number ≡ c.waiting.number)
IsSameAwait (Await.Page u k) (Await.Page v j) = (v ≡ u) × (j ≡ k)
IsSameAwait a b = ⊥

abbrev pub IsSameDoing : Option OpenOp → Option OpenOp → Type 0
IsSameDoing None None = Unit {0}
IsSameDoing (Some o) (Some r) = (r.began ≡ o.began) × IsSameAwait o.awaits r.awaits
IsSameDoing o r = ⊥

-- the operation begins, goes on, or is settled by its open call
abbrev pub IsAt : Option OpenOp → BegunOp → Stage → Type 0
IsAt None o Stage.Starts = Unit {0}
IsAt (Some r) o Stage.Resumes = o ≡ r.began
IsAt (Some r) o (Stage.Settles number) = (o ≡ r.began) × HasNumber number r.awaits
IsAt doing o stage = ⊥

-- what the event leaves for the history
abbrev pub turn_note : Stage → ProcName → ℕ → BegunOp → Turn → Note
turn_note stage p phase o (Turn.Ends reply) = end_note stage p phase o reply
turn_note stage p phase o (Turn.Asks home ask) = open_note stage p o
turn_note stage p phase o (Turn.Waits u k) = open_note stage p o

-- the call that it makes
abbrev pub turn_call : ℕ → ProcState → Turn → Option (ℕ × Asked)
turn_call p q (Turn.Ends reply) = None
turn_call p q (Turn.Asks home ask) = Some (p, next_call q home ask)
turn_call p q (Turn.Waits u k) = None

-- an event that leaves the desk and what processes await; or one process's operation moves the desk, and the others await
-- what they did. Then the home side of the node stays
pub data NodeMove (g : Given) (n : NodeState) (incoming : Incoming) (s : Stepped) : Type 0 where
  still : s.node.desk ≡ n.desk → ((q : ℕ) → IsProc q → IsSameDoing (proc_of n q).doing (proc_of s.node q).doing) → IsApart s.note → s.call ≡ None → NodeMove g n incoming s
  moved : (p : ℕ) (o : BegunOp) (stage : Stage) (m : Moved) → IsProc p → IsAt (proc_of n p).doing o stage → OpMove g.opening incoming (proc_of n p).doing stage n.desk p o.op m
      → s.node.desk ≡ m.desk → (proc_of s.node p).doing ≡ doing_after o (proc_of n p) m.turn → ((q : ℕ) → IsProc q → q ≢ p → proc_of s.node q ≡ proc_of n q)
      → s.note ≡ turn_note stage (name_of g p) (proc_of n p).phase o m.turn → s.call ≡ turn_call p (proc_of n p) m.turn → s.node.side ≡ n.side → NodeMove g n incoming s
