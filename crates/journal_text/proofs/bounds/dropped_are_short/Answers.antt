use Rattle.std.proofs.Common.{◌≤◌, decimal, length, subst}
use Rattle.journal_text.proofs.Short.{dropped-more}
use Rattle.journal_text.proofs.bounds.dropped_are_short.Goals as goal

pub loop-uid-preserved : goal.loop-uid-preserved
loop-uid-preserved c =
    dropped-more c.args.pages.now c.loop-uid._uid-index c.loop-uid-item.result c.loop-uid-item.is c.loop-uid-test.true
    (subst (λ n. length (decimal n) ≤ 20) c.from.ensures c.number_is_short.ensures) c.loop-uid.invariant
