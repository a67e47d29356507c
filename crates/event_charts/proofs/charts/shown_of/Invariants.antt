use Rattle.std.proofs.Common.{◌≡◌, take}
use Rattle.event_views.specs.Chosen.{chosen}
use Rattle.event_charts.specs.LentViews.{lent_views}
use Rattle.event_charts.proofs.charts.shown_of.Given as goal

abbrev pub invariant-loop-view : goal.invariant-loop-view
invariant-loop-view l = lent_views l.shown.items ≡ chosen l.choice (take l.view-index l.views)
