use Rattle.std.proofs.Common.{ℕ}
use Rattle.fault_handler.specs.Desks.{DeskState}
use Rattle.fault_handler.specs.Outcomes.{Moved}
use Rattle.lock_validate.specs.Causes.{Cause}
use Rattle.lock_validate.specs.Settled.{GivesUpSettled}
use Rattle.lock_validate.proofs.EachCall.{after-each}
use Rattle.lock_validate.proofs.OutcomeSays.{told-settled}
use Rattle.lock_validate.proofs.laws.what_is_given_up_is_settled.Goals as goal

pub returns : goal.returns
returns c = after-each (λ (d : DeskState) (p : ℕ) (c : Cause) (m : Moved). GivesUpSettled m.desk p m.turn) (λ d p c m is proc made. told-settled d p m.desk c m.turn made.says)
