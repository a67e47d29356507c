use Rattle.std.proofs.Common.{◌≡◌, take}
use Rattle.std.specs.Prelude.{sum_by}
use Rattle.event_counts.specs.PageCounts.{dropped_for}
use Rattle.event_counts.proofs.pages.pages_dropped_for.Given as goal

abbrev pub invariant-loop-view : goal.invariant-loop-view
invariant-loop-view l = l.total ≡ sum_by (dropped_for l.node l.cause) (take l.view-index l.run.events)
