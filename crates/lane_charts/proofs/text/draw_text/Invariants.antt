use Rattle.std.proofs.Common.{◌≡◌, ◌++◌, drop, length}
use Rattle.lane_charts.specs.TextCells.{column_of}
use Rattle.lane_charts.specs.TextCharts.{row_blocks, text_of}
use Rattle.lane_charts.proofs.text.draw_text.Given as goal

abbrev pub invariant-loop-at : goal.invariant-loop-at
invariant-loop-at l = l.text ++ row_blocks (column_of l.width (length l.chart.lanes)) l.chart l.at (drop l.at l.chart.rows) ≡ text_of l.chart l.width
