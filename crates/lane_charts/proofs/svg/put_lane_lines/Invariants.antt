use Rattle.std.proofs.Common.{◌≡◌, ◌++◌}
use Rattle.lane_charts.specs.Pictures.{lane_lines}
use Rattle.lane_charts.proofs.svg.put_lane_lines.Given as goal

abbrev pub invariant-loop-lane : goal.invariant-loop-lane
invariant-loop-lane l = l.to ≡ l.fn.to ++ lane_lines l.height l.lane
