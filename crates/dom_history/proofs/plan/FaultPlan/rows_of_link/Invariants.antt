use Rattle.std.proofs.Common.{take}
use Rattle.dom_history.specs.Plans.{AreOfLink}
use Rattle.dom_history.proofs.plan.FaultPlan.rows_of_link.Given as goal

abbrev pub invariant-loop-row : goal.invariant-loop-row
invariant-loop-row l = AreOfLink (take l.row-index l.rows) l.from l.to l.link.items
