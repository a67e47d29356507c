use Rattle.std.proofs.Common.{ℕ}
use Rattle.fault_handler.specs.Desks.{DeskState}
use Rattle.fault_handler.specs.Outcomes.{Moved}
use Rattle.lock_validate.specs.Causes.{Cause}
use Rattle.lock_validate.specs.Dropped.{MayDropPages}
use Rattle.lock_validate.proofs.EachCall.{after-each}
use Rattle.lock_validate.proofs.laws.pages_are_dropped_only_where_they_may_be.Goals as goal

pub returns : goal.returns
returns c = after-each (λ (d : DeskState) (p : ℕ) (c : Cause) (m : Moved). MayDropPages d p c m.dropped) (λ d p c m is proc made. made.may)
