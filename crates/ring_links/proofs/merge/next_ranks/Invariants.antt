-- The ranks of the first logs so far.
use Rattle.std.proofs.Common.{◌≡◌, length}
use Rattle.ring_links.proofs.NextRanks.{AreNextBelow}
use Rattle.ring_links.proofs.merge.next_ranks.Given as goal

abbrev pub invariant-loop-i : goal.invariant-loop-i
invariant-loop-i l = AreNextBelow l.merged.logs l.merged.came l.i l.nexts.items × (l.count ≡ length l.merged.logs)
