use Rattle.std.proofs.Common.{arith}
use Rattle.std.proofs.lemmas.Fmt.{length-decimal-le}
use Rattle.itoa.proofs.Decimal.{length_four}
use Rattle.journal_text.proofs.sizes.decimal_len.Goals as goal

pub loop-left-preserved : goal.loop-left-preserved
loop-left-preserved c =
    omega (arith, length_four c.loop-left.left c.loop-left-test.true c.loop-left.auto.left-fits.fits, c.loop-left.invariant)

pub overflow_add-behind : goal.overflow_add-behind
overflow_add-behind c =
    omega (arith, length-decimal-le 20 c.args.n (omega arith) (omega arith) c.ranges.n.fits, c.loop-left.invariant)

pub overflow_add-result : goal.overflow_add-result
overflow_add-result c =
    omega (arith, length-decimal-le 20 c.args.n (omega arith) (omega arith) c.ranges.n.fits, c.loop-left.invariant)
