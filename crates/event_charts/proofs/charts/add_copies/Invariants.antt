use Rattle.std.proofs.Common.{◌≡◌, true, take, map}
use Rattle.lane_charts.specs.declared.chart.Arrival.TheVariants.{Row}
use Rattle.event_charts.specs.ChartsOfRuns.{arrow_of, with_arrows}
use Rattle.event_charts.proofs.charts.add_copies.Given as goal

abbrev pub invariant-loop-row : goal.invariant-loop-row
invariant-loop-row l =
    l.chart ≡ with_arrows l.initial.chart (map (λ row. arrow_of l.run l.at l.view.event.place.node l.sent l.view (Row row, true)) (take l.row-index l.rows))
