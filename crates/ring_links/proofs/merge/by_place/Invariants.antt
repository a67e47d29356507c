-- So many events of each log are merged, and the ranks of the next ones are listed.
use Rattle.std.proofs.Common.{◌≡◌}
use Rattle.ring_links.specs.Merged.{left}
use Rattle.ring_links.specs.Ranks.{AreNext}
use Rattle.ring_links.proofs.Merging.{IsMerging}
use Rattle.ring_links.proofs.merge.by_place.Given as goal

abbrev pub invariant-loop-i : goal.invariant-loop-i
invariant-loop-i l = record {
  logs : l.merged.logs ≡ l.fn.logs.items;
  merging : IsMerging l.merged.logs l.merged.came l.merged.events;
  nexts : AreNext l.merged.logs l.merged.came l.nexts.items;
}

abbrev pub decreases-loop-i : goal.decreases-loop-i
decreases-loop-i l = left l.merged.logs l.merged.came
