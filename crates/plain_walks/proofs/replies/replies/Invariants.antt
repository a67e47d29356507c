use Rattle.std.proofs.Common.{◌≡◌, length}
use Rattle.plain_walks.proofs.replies.replies.Given as goal

abbrev pub invariant-loop-p : goal.invariant-loop-p
invariant-loop-p l = length l.store.deeds ≡ l.p-index
