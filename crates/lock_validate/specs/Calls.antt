-- Which calls of a lock, an unlock or a removal open and close.
use Rattle.std.specs.Prelude.{◌≡◌, ℕ, true, false, Some, length}
use Rattle.uid_names.specs.Names.{ObjectName}
use Rattle.uid_names.specs.declared.mode.Mode.{Mode}
use Rattle.fault_handler.specs.Lengths.{known_of, changed_length}
use Rattle.fault_handler.specs.Desks.{DeskState}
use Rattle.fault_handler.specs.LockCalls.{LockCall, LockAnswer}
use Rattle.lock_validate.specs.Causes.{Cause}
use Rattle.lock_validate.specs.Releasing.{releasing_in}

-- the object of a call
abbrev pub lock_object : LockCall → ObjectName
lock_object (LockCall.Lock u m) = u
lock_object (LockCall.PageOut u k delete) = u
lock_object (LockCall.AttrOut u n delete) = u
lock_object (LockCall.Unlock u) = u
lock_object (LockCall.Remove u) = u

-- the call that a cause opens; a length that it sends is the changed one
abbrev pub Opens : Cause → DeskState → LockCall → Type 0
Opens c d (LockCall.Lock u m) = c ≡ Cause.Locks u m
Opens c d (LockCall.PageOut u k delete) = releasing_in c ≡ Some (delete, u)
Opens c d (LockCall.AttrOut u n delete) = (releasing_in c ≡ Some (delete, u)) × (changed_length (known_of u d.known) ≡ Some n)
Opens c d (LockCall.Unlock u) = releasing_in c ≡ Some (false, u)
Opens c d (LockCall.Remove u) = releasing_in c ≡ Some (true, u)

-- the call that an answer or a link fault closes
abbrev pub Closes : Cause → LockCall → Type 0
Closes (Cause.AnswerCame (LockAnswer.Granted u m grant stamp room length)) call = call ≡ LockCall.Lock u m
Closes (Cause.AnswerCame (LockAnswer.Refused q held)) call = (u : ObjectName) × (m : Mode) × (call ≡ LockCall.Lock u m)
Closes (Cause.AnswerCame (LockAnswer.Gone u)) call = (m : Mode) × (call ≡ LockCall.Lock u m)
Closes (Cause.AnswerCame (LockAnswer.PageSettled u delete taken stamp)) call = (k : ℕ) × (call ≡ LockCall.PageOut u k delete)
Closes (Cause.AnswerCame (LockAnswer.LengthSettled u n delete taken stamp)) call = call ≡ LockCall.AttrOut u n delete
Closes (Cause.AnswerCame (LockAnswer.Released u)) call = call ≡ LockCall.Unlock u
Closes (Cause.AnswerCame (LockAnswer.Removed u)) call = call ≡ LockCall.Remove u
Closes (Cause.CallFailed failed) call = call ≡ failed
Closes c call = ⊥
