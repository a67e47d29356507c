-- A link fault ends the call of a lock, an unlock or a removal.
use Rattle.std.specs.Prelude.{ℕ, false, None}
use Rattle.dom_history.specs.declared.op.Reply.TheVariants.{Kept, Doubt}
use Rattle.dom_history.specs.declared.deed.LockState.TheVariants.{Taking, Releasing, Deleting}
use Rattle.dom_history.specs.Locks.{mode_at_home}
use Rattle.fault_handler.specs.Desks.{DeskState, state_of}
use Rattle.fault_handler.specs.Changes.{with_call, with_state, with_page_done}
use Rattle.fault_handler.specs.Outcomes.{Moved, ended}
use Rattle.fault_handler.specs.LockCalls.{LockCall}

-- before the release or the removal was sent the lock is kept; else whether the home acted is open
abbrev pub failed : DeskState → ℕ → LockCall → Moved
failed d p (LockCall.Lock u m) = ended (with_state d p u (Taking m) 0) Doubt
failed d p (LockCall.PageOut u k delete) = ended (with_page_done d p false) Kept
failed d p (LockCall.AttrOut u length delete) = ended d Kept
failed d p (LockCall.Unlock u) = ended (with_state d p u (Releasing (mode_at_home (state_of d p u))) 0) Doubt
failed d p (LockCall.Remove u) = ended (with_state d p u Deleting 0) Doubt

abbrev pub call_failed_of : DeskState → ℕ → LockCall → Moved
call_failed_of d p call = failed (with_call d p None) p call
