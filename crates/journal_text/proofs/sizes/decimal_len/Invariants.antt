use Rattle.std.proofs.Common.{◌≡◌, ◌+◌, length, decimal}
use Rattle.journal_text.proofs.sizes.decimal_len.Given as goal

abbrev pub invariant-loop-left : goal.invariant-loop-left
invariant-loop-left l = length (decimal l.left) + l.behind ≡ length (decimal l.n)

abbrev pub decreases-loop-left : goal.decreases-loop-left
decreases-loop-left l = l.left
