use Rattle.std.proofs.Common.{◌≡◌, ◌++◌, drop}
use Rattle.event_charts.specs.ChartsOfRuns.{takes}
use Rattle.event_charts.specs.LentViews.{lent_views}
use Rattle.event_charts.specs.Slots.{picked}
use Rattle.event_charts.proofs.charts.takers.Given as goal

abbrev pub invariant-loop-at : goal.invariant-loop-at
invariant-loop-at l = l.rows.items ++ picked (takes l.from l.sent) (lent_views l.shown) (drop l.at-index l.places) ≡ picked (takes l.from l.sent) (lent_views l.shown) l.places
