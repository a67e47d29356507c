-- Each call of a desk is moves, and its outcome says what they made.
use Rattle.std.proofs.Common.{ℕ}
use Rattle.fault_handler.specs.Desks.{DeskState}
use Rattle.fault_handler.specs.Outcomes.{Moved}
use Rattle.fault_handler.specs.Accesses.{Always}
use Rattle.fault_handler.specs.Invariant.{IsProc, IsDesk}
use Rattle.lock_validate.specs.Causes.{Cause, comes_of, MayCome, AfterEach}
use Rattle.lock_validate.specs.Turns.{IsMade}
use Rattle.lock_validate.proofs.AccessMoves.{access_of-made}
use Rattle.lock_validate.proofs.AnswerMoves.{answer_came_of-made, call_failed_of-made}
use Rattle.lock_validate.proofs.Facts.{Always-then}
use Rattle.lock_validate.proofs.PageCameMoves.{page_came_of-made, access_failed_of-made}
use Rattle.lock_validate.proofs.ReleaseMoves.{begin_lock_of-made, begin_release_of-made}

pub comes_of-made : (d : DeskState) (p : ℕ) (c : Cause) → IsDesk d → IsProc p → MayCome d p c → Always p (IsMade c p d) (comes_of d p c)
comes_of-made d p (Cause.Accesses op) is proc may = access_of-made d p is proc may.0 op may.1
comes_of-made d p (Cause.Locks u m) is proc may = begin_lock_of-made d p u is proc may m
comes_of-made d p (Cause.Releases delete u) is proc may = begin_release_of-made d p u is proc may delete
comes_of-made d p (Cause.PageCame a) is proc may = page_came_of-made d p is proc a may
comes_of-made d p (Cause.AnswerCame a) is proc may = answer_came_of-made d p is proc a may
comes_of-made d p (Cause.AccessFailed t) is proc may = access_failed_of-made d p is proc t may.0 may.1
comes_of-made d p (Cause.CallFailed call) is proc may = call_failed_of-made d p is proc call may.0 may.1

-- what follows from that holds after each call
pub after-each : (P : DeskState → ℕ → Cause → Moved → Type 0) → ((d : DeskState) (p : ℕ) (c : Cause) (m : Moved) → IsDesk d → IsProc p → IsMade c p d m → P d p c m) → AfterEach P
after-each P follows d p c is proc may = Always-then p (IsMade c p d) (P d p c) (λ m made. follows d p c m is proc made) (comes_of d p c) (comes_of-made d p c is proc may)
