use Rattle.std.proofs.Common.{◌≡◌, ◌++◌, drop}
use Rattle.lane_charts.specs.Pictures.{names_from}
use Rattle.lane_charts.proofs.svg.put_names.Given as goal

abbrev pub invariant-loop-lane : goal.invariant-loop-lane
invariant-loop-lane l = l.to ++ names_from l.y l.lane (drop l.lane l.names) ≡ l.fn.to ++ names_from l.y 0 l.names
