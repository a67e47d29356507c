-- What is known where an object is given up that a process keeps in a mode that writes.
use Rattle.std.specs.Prelude.{◌≡◌, ℕ, Bool, true, false, Option, Some, None, length}
use Rattle.uid_names.specs.Names.{ObjectName}
use Rattle.dom_history.specs.Replies.{may_delete}
use Rattle.fault_handler.specs.Entries.{keeps_writing}
use Rattle.fault_handler.specs.Desks.{DeskState, entry_at, state_of}
use Rattle.fault_handler.specs.LockCalls.{LockCall, LockAnswer}
use Rattle.fault_handler.specs.Conditions.{IsIdle}
use Rattle.lock_validate.specs.Causes.{Cause}

-- the release or the removal with which a cause begins, or goes on
abbrev pub releasing_in : Cause → Option (Bool × ObjectName)
releasing_in (Cause.Releases delete u) = Some (delete, u)
releasing_in (Cause.AnswerCame (LockAnswer.PageSettled u delete taken stamp)) = Some (delete, u)
releasing_in (Cause.AnswerCame (LockAnswer.LengthSettled u length delete taken stamp)) = Some (delete, u)
releasing_in c = None

-- a process gives up an object that it keeps in a mode that writes, with its lowest dirty page first
pub record IsReleasing (c : Cause) (p : ℕ) (d : DeskState) (delete : Bool) (u : ObjectName) : Type 0 where
  pub given : releasing_in c ≡ Some (delete, u)
  pub idle : IsIdle d p
  pub writes : keeps_writing (entry_at d.entries p u) ≡ true
  pub may : delete ≡ true → may_delete (state_of d p u) ≡ true

-- whether its home took the page that was sent before a release
abbrev pub IsPageSettled : Cause → ObjectName → Bool → Type 0
IsPageSettled (Cause.AnswerCame (LockAnswer.PageSettled v delete was stamp)) u taken = (u ≡ v) × (taken ≡ was)
IsPageSettled (Cause.CallFailed (LockCall.PageOut v k delete)) u taken = (u ≡ v) × (taken ≡ false)
IsPageSettled c u taken = ⊥
