use Rattle.std.proofs.Common.{ℕ, ◌≢◌}
use Rattle.fault_handler.specs.Desks.{DeskState}
use Rattle.fault_handler.specs.Outcomes.{Moved}
use Rattle.fault_handler.specs.Invariant.{IsProc}
use Rattle.lock_validate.specs.Causes.{Cause}
use Rattle.lock_validate.specs.Untouched.{IsUntouched}
use Rattle.lock_validate.proofs.Beside.{moves-beside}
use Rattle.lock_validate.proofs.EachCall.{after-each}
use Rattle.lock_validate.proofs.laws.a_process_leaves_the_others.Goals as goal

pub returns : goal.returns
returns c = after-each (λ (d : DeskState) (p : ℕ) (c : Cause) (m : Moved). (q : ℕ) → IsProc q → q ≢ p → IsUntouched d m.desk q) (λ d p c m is proc made. λ q other differs. moves-beside c m.turn p q proc other differs d m.desk m.dropped made.moves)
