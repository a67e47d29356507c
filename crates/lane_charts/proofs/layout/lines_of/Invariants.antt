use Rattle.std.proofs.Common.{◌≡◌}
use Rattle.lane_charts.specs.Layout.{lines_to, sent_above}
use Rattle.lane_charts.proofs.layout.lines_of.Given as goal

abbrev pub invariant-loop-at : goal.invariant-loop-at
invariant-loop-at l = record {
  lines : l.lines ≡ lines_to l.chart.arrows l.at;
  above : l.above ≡ sent_above l.at l.chart.arrows;
}
