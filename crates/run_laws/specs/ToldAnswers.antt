-- What ends an operation: its own desk, the answer to its last call, or a link fault; and what each can say.
use Rattle.std.specs.Prelude.{◌≡◌, ℕ, ◌⊎◌, false, Some, []}
use Rattle.dom_history.specs.declared.op.Op.{Op}
use Rattle.dom_history.specs.declared.op.Op.TheVariants as ops
use Rattle.dom_history.specs.declared.op.Reply.{Reply}
use Rattle.dom_history.specs.declared.op.Reply.TheVariants as replies
use Rattle.dom_history.specs.Histories.{SomeOf}
use Rattle.ring_messages.specs.Bodies.{Ask, Answer}
use Rattle.fault_handler.specs.Invariant.{IsProc}
use Rattle.node_runs.specs.Setups.{Given}
use Rattle.node_runs.specs.NodeStates.{Asked, NodeState, proc_of, name_of}
use Rattle.node_runs.specs.Incomings.{Incoming}
use Rattle.node_runs.specs.Notes.{Told, Note}
use Rattle.node_runs.specs.Dones.{asking}
use Rattle.node_runs.specs.Runs.{Noted, World}
use Rattle.node_runs.specs.RunHistories.{settled_op, all_told}
use Rattle.node_runs.specs.CallsKeep.{IsCallAt, EachOf}
use Rattle.run_laws.specs.Progress.{IsSettling}
use Rattle.run_laws.specs.DeskSteps.{Takes}

-- the reply to an operation that its home's answer gives
abbrev pub TellsReply : Op → Reply → Answer → Type 0
TellsReply (ops.New home kind room) reply (Answer.Made u) = reply ≡ replies.Made u
TellsReply (ops.New home kind room) reply Answer.NoSpace = reply ≡ replies.NoSpace
TellsReply (ops.List home after) reply (Answer.Listed rows more) = reply ≡ replies.Locks rows more
TellsReply (ops.Lock u m) reply (Answer.Granted grant stamp kind room n) = reply ≡ replies.Fine
TellsReply (ops.Lock u m) reply (Answer.Conflict q held) = reply ≡ replies.Conflict q held
TellsReply (ops.Lock u m) reply Answer.NoObject = reply ≡ replies.NoObject
TellsReply (ops.Unlock u) reply Answer.Done = reply ≡ replies.Fine
TellsReply (ops.Delete u) reply Answer.Done = reply ≡ replies.Fine
TellsReply op reply answer = ⊥

-- before its release or its removal is sent a lock is kept; else whether the home acted is open
abbrev pub IsReleaseFault : Ask → Reply → Type 0
IsReleaseFault (Ask.PageOut u k grant base bytes) reply = reply ≡ replies.Kept
IsReleaseFault (Ask.AttrOut u n grant base) reply = reply ≡ replies.Kept
IsReleaseFault (Ask.Unlock u) reply = reply ≡ replies.Doubt
IsReleaseFault (Ask.Remove u) reply = reply ≡ replies.Doubt
IsReleaseFault ask reply = ⊥

-- the reply by which a link fault ends an operation whose last call asks this
abbrev pub IsFaultOf : Op → Ask → Reply → Type 0
IsFaultOf (ops.New home kind room) ask reply = reply ≡ replies.LinkFault
IsFaultOf (ops.List home after) ask reply = reply ≡ replies.LinkFault
IsFaultOf (ops.Load spot count) ask reply = reply ≡ replies.LinkFault
IsFaultOf (ops.Store spot bytes) ask reply = reply ≡ replies.LinkFault
IsFaultOf (ops.Lock u m) ask reply = reply ≡ replies.Doubt
IsFaultOf (ops.Unlock u) ask reply = IsReleaseFault ask reply
IsFaultOf (ops.Delete u) ask reply = IsReleaseFault ask reply
IsFaultOf op ask reply = ⊥

abbrev pub IsLockRefusal : Reply → Type 0
IsLockRefusal replies.AlreadyHeld = Unit {0}
IsLockRefusal replies.Unsettled = Unit {0}
IsLockRefusal replies.TooMany = Unit {0}
IsLockRefusal replies.NoObject = Unit {0}
IsLockRefusal reply = ⊥

-- what the desk of an operation's own node answers to it: a lock, a release or a removal it can only refuse
abbrev pub IsLocalReply : Op → Reply → Type 0
IsLocalReply (ops.New home kind room) reply = reply ≡ replies.NoSpace
IsLocalReply (ops.List home after) reply = reply ≡ replies.Locks [] false
IsLocalReply (ops.Lock u m) reply = IsLockRefusal reply
IsLocalReply (ops.Unlock u) reply = reply ≡ replies.NotHeld
IsLocalReply (ops.Delete u) reply = (reply ≡ replies.NoLock) ⊎ (reply ≡ replies.WrongMode)
IsLocalReply op reply = Unit {0}

-- an operation that the answer to its open call or a link fault ends
pub record IsSettled (g : Given) (n : NodeState) (incoming : Incoming) (t : Told) : Type 0 where
  pub proc : ℕ
  pub owner : IsProc proc
  pub named : t.proc ≡ name_of g proc
  pub call : Asked
  pub doing : (proc_of n proc).doing ≡ asking (record { op = t.op; begun = t.begun }) call
  pub number : t.number ≡ call.waiting.number
  pub by : IsFaultOf t.op call.ask t.reply ⊎ ((answer : Answer) × Takes incoming proc (proc_of n proc).doing answer × TellsReply t.op t.reply answer)

abbrev pub IsEnded : Given → NodeState → Incoming → Note → Type 0
IsEnded g n incoming (Note.Did p phase op reply) = IsLocalReply op reply
IsEnded g n incoming (Note.Ended t) = IsSettled g n incoming t
IsEnded g n incoming note = Unit {0}

-- what was done at a desk
abbrev pub IsAtDesk : Note → Type 0
IsAtDesk (Note.Did p phase op reply) = IsLocalReply op reply
IsAtDesk note = Unit {0}

-- the decision that told of it
abbrev pub IsToldBy : Told → Note → Type 0
IsToldBy t (Note.Decided p number ask answer) = (p ≡ t.proc) × (number ≡ t.number) × TellsReply t.op t.reply answer
IsToldBy t note = ⊥

-- what was told of an operation: a link fault of its last call, or what its home decided on it
pub record IsTold (w : World) (t : Told) : Type 0 where
  pub home : ℕ
  pub ask : Ask
  pub call : IsCallAt (w.calls t.proc.node t.proc.number) t.number home ask
  -- a call that settles an operation is of that operation
  pub op : IsSettling ask → settled_op home ask ≡ Some t.op
  pub by : IsFaultOf t.op ask t.reply ⊎ SomeOf (λ (j : Noted). IsToldBy t j.note) w.trace

pub record AreTold (w : World) : Type 0 where
  pub desks : EachOf (λ (j : Noted). IsAtDesk j.note) w.trace
  pub told : EachOf (IsTold w) (all_told w.trace)
