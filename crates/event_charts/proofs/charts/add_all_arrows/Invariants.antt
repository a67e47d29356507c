use Rattle.std.proofs.Common.{◌≡◌, ◌++◌, drop}
use Rattle.event_charts.specs.ChartsOfRuns.{arrows_from}
use Rattle.event_charts.specs.LentViews.{lent_views}
use Rattle.event_charts.proofs.charts.add_all_arrows.Given as goal

abbrev pub invariant-loop-at : goal.invariant-loop-at
invariant-loop-at l =
    (l.chart ≡ record l.initial.chart { arrows = l.chart.arrows })
    × (l.chart.arrows ++ arrows_from l.choice l.run (lent_views l.shown) l.at (lent_views (drop l.at l.shown)) ≡ arrows_from l.choice l.run (lent_views l.shown) 0 (lent_views l.shown))
