use Rattle.std.proofs.Common.{◌≡◌, sym, subst, false}
use Rattle.dom_history.specs.Plans.{is_set, IsPlan}
use Rattle.dom_history.proofs.PlanRows.{unset_before}
use Rattle.dom_history.proofs.plan.FaultPlan.copy.Goals as goal

pub set-requires-clause-unset : goal.set-requires-clause-unset
set-requires-clause-unset c =
    let row = c.row-item.result in
    subst (λ rows. is_set rows row.from row.to row.index ≡ false) (sym c.loop-row.invariant)
    (unset_before c.rows-rows.result.now c.loop-row.row-index row (subst IsPlan (sym c.rows-rows.ensures.value) c.rows-rows.ensures.plan) c.loop-row-test.true c.row-item.is)
