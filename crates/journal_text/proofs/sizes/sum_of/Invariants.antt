use Rattle.std.proofs.Common.{◌≡◌, take}
use Rattle.std.specs.Prelude.{sum}
use Rattle.journal_text.proofs.sizes.sum_of.Given as goal

abbrev pub invariant-loop-length : goal.invariant-loop-length
invariant-loop-length l = l.total ≡ sum (take l.length-index l.lengths)
