use Rattle.std.proofs.Common.{◌≡◌, ◌++◌, drop}
use Rattle.lane_charts.specs.Pictures.{picture_head, row_groups}
use Rattle.lane_charts.proofs.svg.draw_svg.Given as goal

abbrev pub invariant-loop-at : goal.invariant-loop-at
invariant-loop-at l = l.picture ++ row_groups l.chart l.at (drop l.at l.chart.rows) ≡ picture_head l.chart ++ row_groups l.chart 0 l.chart.rows
