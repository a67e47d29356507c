use Rattle.std.proofs.Common.{ℕ}
use Rattle.fault_handler.specs.Desks.{DeskState}
use Rattle.fault_handler.specs.Outcomes.{Moved}
use Rattle.fault_handler.specs.Drops.{DropsOnly}
use Rattle.lock_validate.specs.Causes.{Cause}
use Rattle.lock_validate.proofs.DroppedTold.{moves-drop}
use Rattle.lock_validate.proofs.EachCall.{after-each}
use Rattle.lock_validate.proofs.laws.what_is_dropped_is_told.Goals as goal

pub returns : goal.returns
returns c = after-each (λ (d : DeskState) (p : ℕ) (c : Cause) (m : Moved). DropsOnly d.cache.pages m.desk.cache.pages m.dropped) (λ d p c m is proc made. moves-drop c m.turn p d m.desk m.dropped made.moves)
