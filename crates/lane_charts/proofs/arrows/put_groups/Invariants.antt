use Rattle.std.proofs.Common.{◌≡◌, ◌+◌, ◌++◌, drop}
use Rattle.lane_charts.specs.Pictures.{groups_at}
use Rattle.lane_charts.proofs.arrows.put_groups.Given as goal

abbrev pub invariant-loop-below : goal.invariant-loop-below
invariant-loop-below l = l.to ++ groups_at l.chart l.from (l.line + l.below) (drop l.below l.places) ≡ l.fn.to ++ groups_at l.chart l.from l.line l.places
