use Rattle.std.proofs.Common.{ℕ}
use Rattle.fault_handler.specs.Desks.{DeskState}
use Rattle.fault_handler.specs.Outcomes.{Moved}
use Rattle.fault_handler.specs.Invariant.{IsDesk}
use Rattle.lock_validate.specs.Causes.{Cause}
use Rattle.lock_validate.specs.Untouched.{IsSameDesk}
use Rattle.lock_validate.proofs.Beside.{moves-same}
use Rattle.lock_validate.proofs.DeskStays.{moves-desk}
use Rattle.lock_validate.proofs.EachCall.{after-each}
use Rattle.lock_validate.proofs.laws.a_call_leaves_a_desk.Goals as goal

pub returns : goal.returns
returns c = record {
  desk = after-each (λ (d : DeskState) (p : ℕ) (c : Cause) (m : Moved). IsDesk m.desk) (λ d p c m is proc made. moves-desk c m.turn p proc d m.desk m.dropped is made.moves);
  same = after-each (λ (d : DeskState) (p : ℕ) (c : Cause) (m : Moved). IsSameDesk d m.desk) (λ d p c m is proc made. moves-same c m.turn p d m.desk m.dropped made.moves);
}
