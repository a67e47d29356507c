use Rattle.std.proofs.Common.{◌≡◌, ◌∷◌, [], ◌++◌}
use Rattle.lane_charts.specs.TextCells.{repeated}
use Rattle.lane_charts.proofs.cells.put_repeated.Given as goal

abbrev pub invariant-loop-i : goal.invariant-loop-i
invariant-loop-i l = l.to ≡ l.initial.to ++ repeated l._i (l.byte ∷ [])
