use Rattle.std.proofs.Common.{◌≡◌, ◌++◌}
use Rattle.lane_charts.specs.TextCells.{lifeline, repeated}
use Rattle.lane_charts.proofs.cells.put_lifelines.Given as goal

abbrev pub invariant-loop-i : goal.invariant-loop-i
invariant-loop-i l = l.to ≡ l.initial.to ++ repeated l._i (lifeline l.column)
