use Rattle.std.proofs.Common.{length, take}
use Rattle.lane_charts.specs.ArrowKeys.{key_as}
use Rattle.lane_charts.specs.Places.{AreKeyed}
use Rattle.lane_charts.proofs.by_row.by_rows.Given as goal

abbrev pub invariant-loop-place : goal.invariant-loop-place
invariant-loop-place l = AreKeyed (key_as l.standing) (length l.chart.rows) l.places (take l.place l.chart.arrows)
