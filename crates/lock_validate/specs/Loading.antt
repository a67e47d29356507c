-- What is known where a load or store is done at its page, or moves a page.
use Rattle.std.specs.Prelude.{◌≡◌, ℕ, ◌+◌, ◌*◌, nat_lt, Bool, true, false, Some, None, length}
use Rattle.uid_names.specs.Names.{ObjectName}
use Rattle.uid_names.specs.declared.limits.TheConstants.{PAGE_BYTES}
use Rattle.page_cache.specs.Caches.{Resident, page_at, free_count}
use Rattle.fault_handler.specs.declared.tasks.Work.TheVariants.{Load, Store}
use Rattle.fault_handler.specs.declared.tasks.Task.{Task}
use Rattle.fault_handler.specs.Lengths.{known_of, room_of, length_of}
use Rattle.fault_handler.specs.Tasks.{page_of}
use Rattle.fault_handler.specs.Transits.{coming, going}
use Rattle.fault_handler.specs.Desks.{DeskState, task_of, moving_of, others_fetch}
use Rattle.fault_handler.specs.Accesses.{DeskOp, target_of}
use Rattle.fault_handler.specs.Changes.{with_dropped}
use Rattle.fault_handler.specs.Victims.{is_idle_page}
use Rattle.fault_handler.specs.PageReplies.{PageAnswer}
use Rattle.fault_handler.specs.Invariant.{KeepsAll, IsAllowed}
use Rattle.fault_handler.specs.Conditions.{IsIdle, IsAccessing}
use Rattle.lock_validate.specs.Causes.{Cause}

-- the load or store that a cause does: one that begins passed its local tests, one that is open goes on
abbrev pub IsTaskIn : DeskState → ℕ → Cause → Task → Type 0
IsTaskIn d p (Cause.Accesses (DeskOp.Loads spot count)) task =
    (target_of d p spot ≡ Some (task.uid, task.offset)) × (task.work ≡ Load count) × (nat_lt (length_of (known_of task.uid d.known)) (task.offset + count) ≡ false)
IsTaskIn d p (Cause.Accesses (DeskOp.Stores spot bytes)) task =
    (target_of d p spot ≡ Some (task.uid, task.offset)) × (task.work ≡ Store bytes) × (nat_lt (PAGE_BYTES * room_of (known_of task.uid d.known)) (task.offset + length bytes) ≡ false)
IsTaskIn d p (Cause.PageCame (PageAnswer.Came open_task stamp bytes)) task = task ≡ open_task
IsTaskIn d p (Cause.PageCame (PageAnswer.Taken open_task r stamp)) task = task ≡ open_task
IsTaskIn d p (Cause.PageCame (PageAnswer.NotTaken open_task r stamp)) task = task ≡ open_task
IsTaskIn d p c task = ⊥

-- a process that may go on does it, which is allowed
pub record Does (c : Cause) (p : ℕ) (d : DeskState) (task : Task) : Type 0 where
  pub idle : IsIdle d p
  pub allowed : IsAllowed d.entries p task
  pub given : IsTaskIn d p c task

-- where a load or store is made, or made anew, it looks for its page
abbrev pub LooksUp : Cause → Type 0
LooksUp (Cause.Accesses op) = Unit {0}
LooksUp (Cause.PageCame (PageAnswer.Taken open_task r stamp)) = Unit {0}
LooksUp c = ⊥

-- it looks for its page, which is not resident, and which no other process asked for
pub record IsMissing (c : Cause) (p : ℕ) (d : DeskState) (task : Task) : Type 0 where
  pub looked : LooksUp c
  pub absent : page_at d.cache.pages task.uid (page_of task) ≡ None
  pub unasked : others_fetch d.moving p task.uid (page_of task) ≡ false

-- a frame is free for a page: one was, or a page was dropped from it
pub data HasFrame : DeskState → Type 0 where
  free : (d : DeskState) → nat_lt 0 (free_count d.cache) ≡ true → HasFrame d
  emptied : (d : DeskState) (u : ObjectName) (k : ℕ) → free_count d.cache ≡ 0 → is_idle_page d u k ≡ true → HasFrame (with_dropped d u k)

-- the open load or store moves its page from its home
pub record Fetches (p : ℕ) (d : DeskState) (task : Task) : Type 0 where
  pub accessing : IsAccessing d p
  pub opened : task_of d p ≡ Some task
  pub moves : moving_of d p ≡ coming task.uid (page_of task)
  pub absent : page_at d.cache.pages task.uid (page_of task) ≡ None
  pub allowed : IsAllowed d.entries p task
  pub keeping : KeepsAll d.entries p

-- a process moves this resident page home
pub record SendsPage (p : ℕ) (d : DeskState) (u : ObjectName) (k : ℕ) (r : Resident) : Type 0 where
  pub moves : moving_of d p ≡ going u k
  pub there : page_at d.cache.pages u k ≡ Some r

-- an open load or store does, to make room
pub record MakesRoom (p : ℕ) (d : DeskState) (task : Task) (r : Resident) : Type 0 where
  pub accessing : IsAccessing d p
  pub opened : task_of d p ≡ Some task
  pub sends : SendsPage p d r.uid r.page r
  pub dirty : r.flags.dirty ≡ true
  pub allowed : IsAllowed d.entries p task
  pub keeping : KeepsAll d.entries p

-- the answer to a page that makes room: whether its home took it; a link fault leaves that open
abbrev pub IsRoomAnswer : Cause → Task → Resident → Bool → Type 0
IsRoomAnswer (Cause.PageCame (PageAnswer.Taken open_task page stamp)) task r taken = (task ≡ open_task) × (r ≡ page) × (taken ≡ true)
IsRoomAnswer (Cause.AccessFailed t) task r taken = taken ≡ false
IsRoomAnswer c task r taken = ⊥
