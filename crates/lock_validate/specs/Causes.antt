-- Why a desk moves, and what comes of it: an operation of a process begins or goes on, a home answers its open call, or a link
-- fault ends that call.
use Rattle.std.specs.Prelude.{◌≡◌, ℕ, Bool, Some}
use Rattle.uid_names.specs.Names.{ObjectName}
use Rattle.uid_names.specs.declared.mode.Mode.{Mode}
use Rattle.dom_history.specs.declared.op.Op.{Op}
use Rattle.dom_history.specs.declared.op.Op.TheVariants as ops
use Rattle.dom_history.specs.declared.op.Reply.TheVariants.{LinkFault}
use Rattle.dom_history.specs.Ranges.{IsOp}
use Rattle.ring_messages.specs.Bodies.{Answer, body_of_answer}
use Rattle.ring_messages.specs.Ranges.{IsBody}
use Rattle.fault_handler.specs.declared.transits.Transit.{Transit}
use Rattle.fault_handler.specs.Desks.{DeskState, open_call_of, moving_of}
use Rattle.fault_handler.specs.Outcomes.{Moved, ended}
use Rattle.fault_handler.specs.Accesses.{DeskOp, Accessed, Always, access_of}
use Rattle.fault_handler.specs.PageReplies.{PageAnswer, page_answer, page_came_of, access_failed_of}
use Rattle.fault_handler.specs.LockCalls.{LockCall, LockAnswer, open_call, lock_answer}
use Rattle.fault_handler.specs.Invariant.{IsProc, IsDesk}
use Rattle.fault_handler.specs.Conditions.{IsIdle, IsAccessing}
use Rattle.fault_handler.specs.Ready.{IsReady}
use Rattle.fault_handler.specs.Next.{release_op, IsOpen}
use Rattle.lock_validate.specs.Locking.{begin_lock_of}
use Rattle.lock_validate.specs.Releases.{begin_release_of}
use Rattle.lock_validate.specs.Answers.{answer_came_of}
use Rattle.lock_validate.specs.Faults.{call_failed_of}

pub data Cause : Type 0 where
  Accesses : (op : DeskOp) → Cause
  Locks : (uid : ObjectName) (mode : Mode) → Cause
  -- an unlock, or a removal
  Releases : (delete : Bool) (uid : ObjectName) → Cause
  -- a home's answer to the call of a load or store, or to another one
  PageCame : (answer : PageAnswer) → Cause
  AnswerCame : (answer : LockAnswer) → Cause
  -- a link fault, where a load or store moves this page, or at another call
  AccessFailed : (transit : Transit) → Cause
  CallFailed : (call : LockCall) → Cause

-- what comes of it
abbrev pub comes_of : DeskState → ℕ → Cause → Accessed
comes_of d p (Cause.Accesses op) = access_of d p op
comes_of d p (Cause.Locks u m) = Accessed.Settled (begin_lock_of d p u m)
comes_of d p (Cause.Releases delete u) = Accessed.Settled (begin_release_of d p delete u)
comes_of d p (Cause.PageCame answer) = page_came_of d p answer
comes_of d p (Cause.AnswerCame answer) = Accessed.Settled (answer_came_of d p answer)
comes_of d p (Cause.AccessFailed t) = Accessed.Settled (ended (access_failed_of d p t) LinkFault)
comes_of d p (Cause.CallFailed call) = Accessed.Settled (call_failed_of d p call)

abbrev pub op_of : DeskOp → Op
op_of (DeskOp.Loads spot count) = ops.Load spot count
op_of (DeskOp.Stores spot bytes) = ops.Store spot bytes
op_of (DeskOp.Measures u) = ops.Length u
op_of (DeskOp.Maps u) = ops.Map u
op_of (DeskOp.Unmaps u) = ops.Unmap u

-- a home's answer, in its ranges, says this to the open load or store
pub record IsPageAnswer (d : DeskState) (p : ℕ) (a : PageAnswer) : Type 0 where
  pub accessing : IsAccessing d p
  pub answer : Answer
  pub says : page_answer d p answer ≡ Some a
  pub range : IsBody d.node (body_of_answer answer)

-- or to the open call of a lock, an unlock or a removal, which stands
pub record IsLockAnswer (d : DeskState) (p : ℕ) (a : LockAnswer) : Type 0 where
  pub ready : IsReady d p
  pub call : LockCall
  pub opened : open_call_of d p ≡ Some (open_call call)
  pub answer : Answer
  pub says : lock_answer call answer ≡ Some a
  pub range : IsBody d.node (body_of_answer answer)

-- when a desk may move so: an operation begins where the process is idle, and an answer or a link fault is of its open call
abbrev pub MayCome : DeskState → ℕ → Cause → Type 0
MayCome d p (Cause.Accesses op) = IsIdle d p × IsOp (op_of op)
MayCome d p (Cause.Locks u m) = IsIdle d p
MayCome d p (Cause.Releases delete u) = IsIdle d p
MayCome d p (Cause.PageCame answer) = IsPageAnswer d p answer
MayCome d p (Cause.AnswerCame answer) = IsLockAnswer d p answer
MayCome d p (Cause.AccessFailed t) = IsAccessing d p × (moving_of d p ≡ Some t)
MayCome d p (Cause.CallFailed call) = IsReady d p × (open_call_of d p ≡ Some (open_call call))

-- the operation whose call it is
abbrev pub IsOf : DeskState → ℕ → Cause → Op → Type 0
IsOf d p (Cause.Accesses access) op = op ≡ op_of access
IsOf d p (Cause.Locks u m) op = op ≡ ops.Lock u m
IsOf d p (Cause.Releases delete u) op = op ≡ release_op delete u
IsOf d p c op = IsOpen d p op

-- what holds after each call of a process of the node, on whatever desk it may be made, and however room is made
abbrev pub AfterEach : (DeskState → ℕ → Cause → Moved → Type 0) → Type 0
AfterEach P = (d : DeskState) (p : ℕ) (c : Cause) → IsDesk d → IsProc p → MayCome d p c → Always p (P d p c) (comes_of d p c)
