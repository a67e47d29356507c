use Rattle.std.proofs.Common.{ℕ}
use Rattle.fault_handler.specs.Desks.{DeskState}
use Rattle.fault_handler.specs.Outcomes.{Moved}
use Rattle.lock_validate.specs.Causes.{Cause}
use Rattle.lock_validate.specs.Waiting.{WaitsForAnother, WaitsForFetch}
use Rattle.lock_validate.proofs.EachCall.{after-each}
use Rattle.lock_validate.proofs.OutcomeSays.{told-waits, told-waits_for_fetch}
use Rattle.lock_validate.proofs.laws.a_wait_is_for_a_page_that_another_process_moves.Goals as goal

pub returns : goal.returns
returns c = record {
  moved = after-each (λ (d : DeskState) (p : ℕ) (c : Cause) (m : Moved). WaitsForAnother m.desk p m.turn) (λ d p c m is proc made. told-waits d p m.desk c m.turn made.says);
  fetched = after-each (λ (d : DeskState) (p : ℕ) (c : Cause) (m : Moved). WaitsForFetch c m.desk p m.turn) (λ d p c m is proc made. told-waits_for_fetch d p m.desk c m.turn made.says);
}
