use Rattle.std.proofs.Common.{◌∙◌, sym, arith}
use Rattle.std.proofs.lemmas.Option.{slice_get_within}
use Rattle.run_outcomes.proofs.BestRows.{best-next, best-stays}
use Rattle.run_outcomes.proofs.tally.commonest.Goals as goal
use Rattle.run_outcomes.proofs.tally.commonest.Goals.{then-is_commoner, else-is_commoner}

pub loop-i-preserved : goal.loop-i-preserved
loop-i-preserved c =
    let rows = c.args.rows.now in
    let so_far = c.loop-i.invariant in
    elim c.if-is_commoner.branch [
      | then-is_commoner w ↦ rw w.best-is
          (omega arith, so_far.1, best-next rows c.loop-i.i c.loop-i.best c.index-rows-i.result c.index-rows-best.result (omega arith) so_far.0 c.index-rows-i.is c.index-rows-best.is so_far.2 (sym c.is_commoner.ensures ∙ w.if-is_commoner.true))
      | else-is_commoner w ↦ rw w.best-is
          (so_far.0, so_far.1, best-stays rows c.loop-i.i c.loop-i.best c.index-rows-i.result c.index-rows-best.result (omega arith) so_far.0 c.index-rows-i.is c.index-rows-best.is so_far.2 (sym c.is_commoner.ensures ∙ w.if-is_commoner.false))
    ]

pub returns-clause-commonest : goal.returns-clause-commonest
returns-clause-commonest c =
    let best = c.loop-i.invariant in
    record { within = best.0; commonest = λ i row other is_row is_other. best.2 i row other (omega (arith, c.loop-i-test.false, slice_get_within c.args.rows.now i other is_other)) is_row is_other }
