use Rattle.std.proofs.Common.{◌∙◌}
use Rattle.explored_runs.proofs.Outcomes.{rows-more}
use Rattle.explored_runs.proofs.came.outcome_of.Goals as goal

pub loop-row-preserved : goal.loop-row-preserved
loop-row-preserved c =
    rows-more c.args.rows.now c.loop-row.row-index c.row-item.result c.in_ok-answers.answers c.loop-row.outcome c.push.new.self
    c.loop-row-test.true c.row-item.is c.loop-row.invariant (c.in_ok-answers.ensures ∙ c.items.ensures) c.in_ok-push.ensures.ok
