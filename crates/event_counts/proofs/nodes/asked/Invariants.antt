use Rattle.std.proofs.Common.{◌≡◌, ◌≤◌, take}
use Rattle.std.specs.Prelude.{count_by}
use Rattle.event_counts.specs.NodeCounts.{asks}
use Rattle.event_counts.proofs.nodes.asked.Given as goal

abbrev pub invariant-loop-view : goal.invariant-loop-view
invariant-loop-view l = (l.count ≤ l.view-index) × (l.count ≡ count_by (asks l.node l.kind) (take l.view-index l.views))
