-- What a desk keeps of a process between calls: it may begin or go on, or its open call stands.
use Rattle.std.specs.Prelude.{◌≡◌, ◌≢◌, ◌<◌, ℕ, Bool, true, false, Option, Some, None, length}
use Rattle.uid_names.specs.Names.{ObjectName}
use Rattle.dom_history.specs.Locks.{is_free, is_held}
use Rattle.dom_history.specs.Replies.{may_delete}
use Rattle.uid_names.specs.declared.limits.TheConstants.{PROCESS_LOCKS}
use Rattle.fault_handler.specs.declared.open_call.OpenCall.{OpenCall}
use Rattle.fault_handler.specs.Entries.{is_released, keeps, keeps_writing}
use Rattle.fault_handler.specs.Transits.{going}
use Rattle.fault_handler.specs.Desks.{DeskState, IsNode, entries_of, entry_at, state_of, open_call_of, moving_of}
use Rattle.fault_handler.specs.Invariant.{KeepsAll}
use Rattle.fault_handler.specs.Conditions.{IsIdle}
use Rattle.fault_handler.specs.LockCalls.{LockCall, lock_call}

-- the process keeps each object on which it is Held, but this one
abbrev pub KeepsOthers : DeskState → ℕ → ObjectName → Type 0
KeepsOthers d p u = (v : ObjectName) → v ≢ u → is_held (state_of d p v) ≡ true → keeps (entry_at d.entries p v) ≡ true

-- a lock: the process is Free on the object, there is room for one more, and the home is a node
pub record LockStands (d : DeskState) (p : ℕ) (u : ObjectName) : Type 0 where
  pub free : is_free (state_of d p u) ≡ true
  pub room : length (entries_of d p) < PROCESS_LOCKS
  pub node : IsNode d.nodes u.home
  pub still : moving_of d p ≡ None
  pub others : KeepsAll d.entries p

-- what is sent home before a release or a removal: the process keeps the object in a mode that writes, and for a
-- removal in one that allows it
pub record WriterStands (d : DeskState) (p : ℕ) (u : ObjectName) (delete : Bool) : Type 0 where
  pub writes : keeps_writing (entry_at d.entries p u) ≡ true
  pub may : delete ≡ true → may_delete (state_of d p u) ≡ true
  pub others : KeepsAll d.entries p

-- a release or a removal: the process is not Free on the object, and where it is Held it has noted it
pub record ReleaseStands (d : DeskState) (p : ℕ) (u : ObjectName) : Type 0 where
  pub there : is_free (state_of d p u) ≡ false
  pub noted : is_held (state_of d p u) ≡ true → is_released (entry_at d.entries p u) ≡ true
  pub still : moving_of d p ≡ None
  pub others : KeepsOthers d p u

-- an open call of a lock, an unlock or a removal stands
abbrev pub CallStands : DeskState → ℕ → LockCall → Type 0
CallStands d p (LockCall.Lock u m) = LockStands d p u
CallStands d p (LockCall.PageOut u k delete) = WriterStands d p u delete × (moving_of d p ≡ going u k)
CallStands d p (LockCall.AttrOut u n delete) = WriterStands d p u delete × (moving_of d p ≡ None)
CallStands d p (LockCall.Unlock u) = ReleaseStands d p u
CallStands d p (LockCall.Remove u) = ReleaseStands d p u × (is_held (state_of d p u) ≡ true)

-- nothing is asked of a load's or store's call: what each desk keeps says all of it
abbrev pub MayStand : DeskState → ℕ → Option LockCall → Type 0
MayStand d p None = Unit {0}
MayStand d p (Some call) = CallStands d p call

abbrev pub IsReadyAt : DeskState → ℕ → Option OpenCall → Type 0
IsReadyAt d p None = IsIdle d p
IsReadyAt d p (Some call) = MayStand d p (lock_call call)

-- without an open call the process is idle, with one that call stands
abbrev pub IsReady : DeskState → ℕ → Type 0
IsReady d p = IsReadyAt d p (open_call_of d p)
