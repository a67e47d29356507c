-- What an answer or a link fault leaves, and how its operation ends.
use Rattle.std.specs.Prelude.{◌≡◌, ℕ, true, false, Option, Some, None, length}
use Rattle.uid_names.specs.Names.{ObjectName}
use Rattle.uid_names.specs.declared.mode.Mode.{Mode}
use Rattle.dom_history.specs.declared.deed.LockState.TheVariants.{Free, Held, Taking, Releasing, Deleting}
use Rattle.dom_history.specs.declared.op.Reply.TheVariants as replies
use Rattle.dom_history.specs.Locks.{mode_at_home}
use Rattle.page_cache.specs.Caches.{page_at}
use Rattle.version_stamps.specs.Stamps.{stamp_of, raised}
use Rattle.fault_handler.specs.Lengths.{known_of}
use Rattle.fault_handler.specs.Desks.{DeskState, entry_at, state_of, any_keeps}
use Rattle.fault_handler.specs.LockCalls.{LockCall, LockAnswer}
use Rattle.lock_validate.specs.Answers.{is_seen, is_fresh}
use Rattle.dom_history.specs.declared.op.Reply.{Reply}
use Rattle.lock_validate.specs.Told.{told_row}

-- the end of an operation whose home answered, or whose call a link fault ended
abbrev pub answer_reply : LockAnswer → Option Reply
answer_reply (LockAnswer.Granted u m grant stamp room length) = Some replies.Fine
answer_reply (LockAnswer.Refused q held) = Some (replies.Conflict q held)
answer_reply (LockAnswer.Gone u) = Some replies.NoObject
answer_reply (LockAnswer.PageSettled u delete taken stamp) = None
answer_reply (LockAnswer.LengthSettled u length delete taken stamp) = None
answer_reply (LockAnswer.Released u) = Some replies.Fine
answer_reply (LockAnswer.Removed u) = Some replies.Fine

-- before the release or the removal was sent the lock is kept; else whether the home acted is open
abbrev pub fault_reply : LockCall → Reply
fault_reply (LockCall.Lock u m) = replies.Doubt
fault_reply (LockCall.PageOut u k delete) = replies.Kept
fault_reply (LockCall.AttrOut u n delete) = replies.Kept
fault_reply (LockCall.Unlock u) = replies.Doubt
fault_reply (LockCall.Remove u) = replies.Doubt

-- what an answer leaves: what a grant tells is held and seen, and nothing is left of what is outdated or gone
pub record IsGranted (d : DeskState) (p : ℕ) (e : DeskState) (u : ObjectName) (m : Mode) (grant stamp room length : ℕ) : Type 0 where
  pub entry : entry_at e.entries p u ≡ Some (record { uid = u; state = Held m; grant = grant; released = false })
  pub seen : stamp_of u e.seen ≡ Some (raised stamp (stamp_of u d.seen))
  pub pages : any_keeps d.entries u ≡ false → is_seen stamp (stamp_of u d.seen) ≡ false → (k : ℕ) → page_at e.cache.pages u k ≡ None
  pub known : any_keeps d.entries u ≡ false → is_fresh stamp (stamp_of u d.seen) ≡ true → known_of u e.known ≡ Some (told_row u room length)

pub record IsRemoved (p : ℕ) (e : DeskState) (u : ObjectName) : Type 0 where
  pub free : state_of e p u ≡ Free
  pub pages : any_keeps e.entries u ≡ false → (k : ℕ) → page_at e.cache.pages u k ≡ None
  pub seen : any_keeps e.entries u ≡ false → stamp_of u e.seen ≡ None

abbrev pub Leaves : DeskState → ℕ → DeskState → LockAnswer → Type 0
Leaves d p e (LockAnswer.Granted u m grant stamp room length) = IsGranted d p e u m grant stamp room length
Leaves d p e (LockAnswer.Gone u) = any_keeps d.entries u ≡ false → (k : ℕ) → page_at e.cache.pages u k ≡ None
Leaves d p e (LockAnswer.Released u) = state_of e p u ≡ Free
Leaves d p e (LockAnswer.Removed u) = IsRemoved p e u
Leaves d p e a = Unit {0}

-- and what a link fault leaves of the process's state
abbrev pub FaultLeaves : DeskState → ℕ → DeskState → LockCall → Type 0
FaultLeaves d p e (LockCall.Lock u m) = state_of e p u ≡ Taking m
FaultLeaves d p e (LockCall.PageOut u k delete) = state_of e p u ≡ state_of d p u
FaultLeaves d p e (LockCall.AttrOut u n delete) = state_of e p u ≡ state_of d p u
FaultLeaves d p e (LockCall.Unlock u) = state_of e p u ≡ Releasing (mode_at_home (state_of d p u))
FaultLeaves d p e (LockCall.Remove u) = state_of e p u ≡ Deleting
