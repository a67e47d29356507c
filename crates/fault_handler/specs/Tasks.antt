-- A load or store at its place in an object.
use Rattle.std.specs.Prelude.{ℕ, ◌+◌, ◌/◌, ◌%◌, ◌≤◌, length}
use Rattle.uid_names.specs.Rooms.{IsPageNumber}
use Rattle.uid_names.specs.declared.limits.TheConstants.{PAGE_BYTES}
use Rattle.fault_handler.specs.declared.tasks.Work.{Work}
use Rattle.fault_handler.specs.declared.tasks.Work.TheVariants.{Load, Store}
use Rattle.fault_handler.specs.declared.tasks.Task.{Task}

-- the page that it needs
abbrev pub page_of : Task → ℕ
page_of task = task.offset / PAGE_BYTES

-- where it begins in that page
abbrev pub start_of : Task → ℕ
start_of task = task.offset % PAGE_BYTES

-- how many bytes it loads or stores
abbrev pub size_of : Work → ℕ
size_of (Load count) = count
size_of (Store bytes) = length bytes

-- one byte or more, all in one page, which is one that an object may have
pub record IsTask (task : Task) : Type 0 where
  pub some : 1 ≤ size_of task.work
  pub within : start_of task + size_of task.work ≤ PAGE_BYTES
  pub page : IsPageNumber (page_of task)
