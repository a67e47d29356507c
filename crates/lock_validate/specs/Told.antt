-- What an answer tells, and what is known where a desk takes it.
use Rattle.std.specs.Prelude.{◌≡◌, ℕ, ◌≤◌, true, false, Option, Some, None, IsSome, length}
use Rattle.uid_names.specs.Names.{ObjectName}
use Rattle.dom_history.specs.declared.deed.LockState.{LockState}
use Rattle.dom_history.specs.declared.deed.LockState.TheVariants.{Free, Held, Taking, Releasing, Deleting}
use Rattle.dom_history.specs.Locks.{is_held, mode_at_home}
use Rattle.page_cache.specs.Caches.{page_at}
use Rattle.version_stamps.specs.Stamps.{stamp_of}
use Rattle.fault_handler.specs.declared.lengths.Known.{Known}
use Rattle.fault_handler.specs.Lengths.{known_of}
use Rattle.fault_handler.specs.Entries.{keeps}
use Rattle.fault_handler.specs.Desks.{DeskState, IsNode, entry_at, state_of, moving_of, open_call_of, any_keeps}
use Rattle.fault_handler.specs.PageReplies.{PageAnswer}
use Rattle.fault_handler.specs.LockCalls.{LockCall, LockAnswer}
use Rattle.fault_handler.specs.Ready.{CallStands}
use Rattle.lock_validate.specs.Answers.{is_seen, is_fresh}
use Rattle.lock_validate.specs.Causes.{Cause}

-- what an answer tells of an object's stamp
abbrev pub told_stamp : Cause → Option (ObjectName × ℕ)
told_stamp (Cause.PageCame (PageAnswer.Came task stamp bytes)) = Some (task.uid, stamp)
told_stamp (Cause.PageCame (PageAnswer.Taken task r stamp)) = Some (r.uid, stamp)
told_stamp (Cause.PageCame (PageAnswer.NotTaken task r stamp)) = Some (r.uid, stamp)
told_stamp (Cause.AnswerCame (LockAnswer.Granted u m grant stamp room length)) = Some (u, stamp)
told_stamp (Cause.AnswerCame (LockAnswer.PageSettled u delete taken stamp)) = Some (u, stamp)
told_stamp (Cause.AnswerCame (LockAnswer.LengthSettled u length delete taken stamp)) = Some (u, stamp)
told_stamp c = None

-- the row that a grant tells
abbrev pub told_row : ObjectName → ℕ → ℕ → Known
told_row u room length = record { uid = u; room = room; length = length; changed = false }

-- a grant, where no process keeps the object: no page is left if its stamp is not the seen one, and what it tells is known if
-- its stamp is not an old one
pub record IsRenewed (d : DeskState) (u : ObjectName) (stamp room length : ℕ) : Type 0 where
  pub pages : any_keeps d.entries u ≡ false → is_seen stamp (stamp_of u d.seen) ≡ false → (k : ℕ) → page_at d.cache.pages u k ≡ None
  pub known : any_keeps d.entries u ≡ false → is_fresh stamp (stamp_of u d.seen) ≡ true → known_of u d.known ≡ Some (told_row u room length)

-- what is cached of an object is renewed before the stamp of a grant is the seen one
abbrev pub IsCurrent : Cause → DeskState → Type 0
IsCurrent (Cause.AnswerCame (LockAnswer.Granted u m grant stamp room length)) d = IsRenewed d u stamp room length
IsCurrent c d = Unit {0}

-- the object whose pages an answer may drop
abbrev pub outdated_object : LockAnswer → Option ObjectName
outdated_object (LockAnswer.Granted u m grant stamp room length) = Some u
outdated_object (LockAnswer.Gone u) = Some u
outdated_object (LockAnswer.Removed u) = Some u
outdated_object _ = None

-- the call of which an answer or a link fault sets a state: its object, the state and the grant
abbrev pub state_set : DeskState → ℕ → Cause → Option (LockCall × ObjectName × LockState × ℕ)
state_set d p (Cause.AnswerCame (LockAnswer.Granted u m grant stamp room length)) = Some (LockCall.Lock u m, u, Held m, grant)
state_set d p (Cause.AnswerCame (LockAnswer.Released u)) = Some (LockCall.Unlock u, u, Free, 0)
state_set d p (Cause.AnswerCame (LockAnswer.Removed u)) = Some (LockCall.Remove u, u, Free, 0)
state_set d p (Cause.CallFailed (LockCall.Lock u m)) = Some (LockCall.Lock u m, u, Taking m, 0)
state_set d p (Cause.CallFailed (LockCall.Unlock u)) = Some (LockCall.Unlock u, u, Releasing (mode_at_home (state_of d p u)), 0)
state_set d p (Cause.CallFailed (LockCall.Remove u)) = Some (LockCall.Remove u, u, Deleting, 0)
state_set d p c = None

-- it is set where that call stood, of an object that the process does not keep; where it becomes Held a stamp was seen
pub record MaySet (c : Cause) (p : ℕ) (d : DeskState) (call : LockCall) (u : ObjectName) (s : LockState) (grant : ℕ) : Type 0 where
  pub given : state_set d p c ≡ Some (call, u, s, grant)
  pub closed : open_call_of d p ≡ None
  pub still : moving_of d p ≡ None
  pub stood : CallStands d p call
  pub unkept : keeps (entry_at d.entries p u) ≡ false
  pub seen : is_held s ≡ true → IsSome (stamp_of u d.seen)
  pub least : is_held s ≡ true → 1 ≤ grant
  pub node : IsNode d.nodes u.home
