-- The open call of a lock, an unlock or a removal, and what a home's answer says to it.
use Rattle.std.specs.Prelude.{ℕ, Bool, true, false, Option, Some, None, is_some}
use Rattle.uid_names.specs.Names.{ProcName, ObjectName}
use Rattle.uid_names.specs.declared.mode.Mode.{Mode}
use Rattle.ring_messages.specs.Bodies.{Answer, answer_of}
use Rattle.ring_messages.specs.declared.body.Body.{Body}
use Rattle.fault_handler.specs.declared.open_call.OpenCall.{OpenCall}
use Rattle.fault_handler.specs.declared.open_call.OpenCall.TheVariants as calls
use Rattle.fault_handler.specs.Desks.{DeskState, open_call_of}
use Rattle.fault_handler.specs.PageReplies.{page_answer}

-- an open call other than that of a load or store
pub data LockCall : Type 0 where
  Lock : (uid : ObjectName) (mode : Mode) → LockCall
  -- a page or a length that is sent home first; whether the operation is a removal
  PageOut : (uid : ObjectName) (page : ℕ) (delete : Bool) → LockCall
  AttrOut : (uid : ObjectName) (length : ℕ) (delete : Bool) → LockCall
  Unlock : (uid : ObjectName) → LockCall
  Remove : (uid : ObjectName) → LockCall

-- None of a load's or store's
abbrev pub lock_call : OpenCall → Option LockCall
lock_call calls.Access = None
lock_call (calls.Lock u m) = Some (LockCall.Lock u m)
lock_call (calls.PageOut u k delete) = Some (LockCall.PageOut u k delete)
lock_call (calls.AttrOut u n delete) = Some (LockCall.AttrOut u n delete)
lock_call (calls.Unlock u) = Some (LockCall.Unlock u)
lock_call (calls.Remove u) = Some (LockCall.Remove u)

abbrev pub open_call : LockCall → OpenCall
open_call (LockCall.Lock u m) = calls.Lock u m
open_call (LockCall.PageOut u k delete) = calls.PageOut u k delete
open_call (LockCall.AttrOut u n delete) = calls.AttrOut u n delete
open_call (LockCall.Unlock u) = calls.Unlock u
open_call (LockCall.Remove u) = calls.Remove u

-- what a home's answer says to it
pub data LockAnswer : Type 0 where
  Granted : (uid : ObjectName) (mode : Mode) (grant stamp room length : ℕ) → LockAnswer
  Refused : (by : ProcName) (held : Mode) → LockAnswer
  -- no such object is at its home
  Gone : (uid : ObjectName) → LockAnswer
  -- the page or the length that was sent was taken or not; the home's stamp
  PageSettled : (uid : ObjectName) (delete taken : Bool) (stamp : ℕ) → LockAnswer
  LengthSettled : (uid : ObjectName) (length : ℕ) (delete taken : Bool) (stamp : ℕ) → LockAnswer
  Released : (uid : ObjectName) → LockAnswer
  Removed : (uid : ObjectName) → LockAnswer

-- None where the answer doesn't fit the call
abbrev pub lock_answer : LockCall → Answer → Option LockAnswer
lock_answer (LockCall.Lock u m) (Answer.Granted grant stamp kind room length) = Some (LockAnswer.Granted u m grant stamp room length)
lock_answer (LockCall.Lock u m) (Answer.Conflict q held) = Some (LockAnswer.Refused q held)
lock_answer (LockCall.Lock u m) Answer.NoObject = Some (LockAnswer.Gone u)
lock_answer (LockCall.PageOut u k delete) (Answer.Stored stamp) = Some (LockAnswer.PageSettled u delete true stamp)
lock_answer (LockCall.PageOut u k delete) (Answer.Stale stamp) = Some (LockAnswer.PageSettled u delete false stamp)
lock_answer (LockCall.AttrOut u n delete) (Answer.Stored stamp) = Some (LockAnswer.LengthSettled u n delete true stamp)
lock_answer (LockCall.AttrOut u n delete) (Answer.Stale stamp) = Some (LockAnswer.LengthSettled u n delete false stamp)
lock_answer (LockCall.Unlock u) Answer.Done = Some (LockAnswer.Released u)
lock_answer (LockCall.Remove u) Answer.Done = Some (LockAnswer.Removed u)
lock_answer _ _ = None

-- whether an answer fits the open call of a process
abbrev pub fits_lock_call : DeskState → ℕ → Answer → Option LockCall → Bool
fits_lock_call d p answer None = is_some (page_answer d p answer)
fits_lock_call d p answer (Some call) = is_some (lock_answer call answer)

abbrev pub fits_call : DeskState → ℕ → Option OpenCall → Answer → Bool
fits_call d p None answer = false
fits_call d p (Some call) answer = fits_lock_call d p answer (lock_call call)

abbrev pub fits_by : DeskState → ℕ → Option Answer → Bool
fits_by d p None = false
fits_by d p (Some answer) = fits_call d p (open_call_of d p) answer

-- whether a body answers the open call of a process
abbrev pub answers : DeskState → ℕ → Body → Bool
answers d p body = fits_by d p (answer_of body)
