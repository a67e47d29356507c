-- A desk all whose rooms, lengths and pages lie within a room, what it may be told then, and what it asks.
use Rattle.std.specs.Prelude.{ℕ, ◌*◌, ◌≤◌, ◌<◌, IfSome}
use Rattle.uid_names.specs.Names.{ObjectName}
use Rattle.uid_names.specs.Each.{EachOf}
use Rattle.uid_names.specs.declared.limits.TheConstants.{PAGE_BYTES}
use Rattle.page_cache.specs.Caches.{Resident}
use Rattle.ring_messages.specs.Bodies.{body_of_ask}
use Rattle.ring_messages.specs.Ranges.{LiesWithin}
use Rattle.fault_handler.specs.declared.lengths.Known.{Known}
use Rattle.fault_handler.specs.declared.tasks.Task.{Task}
use Rattle.fault_handler.specs.Lengths.{known_of}
use Rattle.fault_handler.specs.Tasks.{page_of}
use Rattle.fault_handler.specs.Desks.{DeskState, task_of}
use Rattle.fault_handler.specs.Outcomes.{Turn, Moved}
use Rattle.fault_handler.specs.LockCalls.{LockAnswer}
use Rattle.fault_handler.specs.Invariant.{IsProc}
use Rattle.lock_validate.specs.Causes.{Cause}

-- what is known of an object: its room, and a length in that
pub record IsKnownWithin (most : ℕ) (k : Known) : Type 0 where
  pub room : k.room ≤ most
  pub length : k.length ≤ PAGE_BYTES * most

-- what is known of each object, the resident pages, and the pages of open loads and stores
pub record IsBounded (room : ℕ) (d : DeskState) : Type 0 where
  pub known : (u : ObjectName) → IfSome (known_of u d.known) (IsKnownWithin room)
  pub pages : EachOf (λ (r : Resident). r.page < room) d.cache.pages
  pub tasks : (q : ℕ) → IsProc q → IfSome (task_of d q) (λ (task : Task). page_of task < room)

-- what a grant tells
abbrev pub IsToldWithin : ℕ → Cause → Type 0
IsToldWithin room (Cause.AnswerCame (LockAnswer.Granted u m grant stamp given n)) = (given ≤ room) × (n ≤ PAGE_BYTES * room)
IsToldWithin room c = Unit {0}

-- what is asked
abbrev pub AsksWithin : ℕ → Turn → Type 0
AsksWithin room (Turn.Ends reply) = Unit {0}
AsksWithin room (Turn.Asks home ask) = LiesWithin room (body_of_ask ask)
AsksWithin room (Turn.Waits u k) = Unit {0}

-- the desk is so again, and what is asked lies within the room
pub record StaysWithin (room : ℕ) (m : Moved) : Type 0 where
  pub desk : IsBounded room m.desk
  pub asks : AsksWithin room m.turn
