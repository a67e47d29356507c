use Rattle.std.proofs.Common.{◌≡◌, take, map}
use Rattle.event_charts.specs.ChartsOfRuns.{row_of}
use Rattle.event_charts.specs.LentViews.{lent_views}
use Rattle.event_charts.proofs.charts.add_all_rows.Given as goal

abbrev pub invariant-loop-view : goal.invariant-loop-view
invariant-loop-view l = l.chart ≡ record l.initial.chart { rows = map (row_of l.run) (lent_views (take l.view-index l.shown)) }
