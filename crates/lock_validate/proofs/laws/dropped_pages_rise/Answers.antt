use Rattle.std.proofs.Common.{ℕ}
use Rattle.fault_handler.specs.Desks.{DeskState}
use Rattle.fault_handler.specs.Outcomes.{Moved}
use Rattle.dom_history.specs.Events.{ArePagesRising}
use Rattle.lock_validate.specs.Causes.{Cause}
use Rattle.lock_validate.proofs.DroppedOrder.{moves-rise}
use Rattle.lock_validate.proofs.EachCall.{after-each}
use Rattle.lock_validate.proofs.laws.dropped_pages_rise.Goals as goal

pub returns : goal.returns
returns c = after-each (λ (d : DeskState) (p : ℕ) (c : Cause) (m : Moved). ArePagesRising m.dropped) (λ d p c m is proc made. moves-rise c m.turn p proc d m.desk m.dropped is made.moves)
