use Rattle.std.proofs.Common.{◌≡◌, ◌+◌, ◌++◌, ◌∷◌, [], take, sym, subst}
use Rattle.dom_history.specs.Plans.{IsPlan}
use Rattle.dom_history.proofs.MadeObjects.{one-more}
use Rattle.dom_history.proofs.PlanRows.{unset_before}
use Rattle.dom_history.proofs.LinkRows.{row-of_link}
use Rattle.dom_history.proofs.plan.FaultPlan.rows_of_link.Goals as goal

pub loop-row-preserved : goal.loop-row-preserved
loop-row-preserved c =
    let row = c.row-item.result in
    let rows = c.rows-rows.result.now in
    let i = c.loop-row.row-index in
    let unset = unset_before rows i row (subst IsPlan (sym c.rows-rows.ensures.value) c.rows-rows.ensures.plan) c.loop-row-test.true c.row-item.is in
    let more : take (i + 1) rows ≡ take i rows ++ row ∷ [] = one-more [] rows i row c.loop-row-test.true c.row-item.is in
    rw (more, c.in_ok-take_in.ensures.ok) (row-of_link (take i rows) row c.args.from c.args.to c.loop-row.link.items unset c.loop-row.invariant)
