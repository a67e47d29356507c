use Rattle.std.proofs.Common.{◌≡◌, take}
use Rattle.std.specs.Prelude.{sum_by}
use Rattle.event_counts.specs.NodeCounts.{dropped_at}
use Rattle.event_counts.proofs.nodes.pages_dropped.Given as goal

abbrev pub invariant-loop-view : goal.invariant-loop-view
invariant-loop-view l = l.total ≡ sum_by (dropped_at l.node) (take l.view-index l.run.events)
