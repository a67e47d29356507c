use Rattle.std.proofs.Common.{◌≡◌, take}
use Rattle.dom_history.proofs.plan.FaultPlan.copy.Given as goal

abbrev pub invariant-loop-row : goal.invariant-loop-row
invariant-loop-row l = l.copy ≡ take l.row-index l.rows
