use Rattle.run_outcomes.proofs.UpTo.{rows-more}
use Rattle.run_outcomes.proofs.difference.differences.Goals as goal

pub loop-i-preserved : goal.loop-i-preserved
loop-i-preserved c =
    rows-more c.loop-i.i c.args.first.now c.args.second.now c.loop-i.all c.put_rows.new.to _ _
    c.loop-i.invariant (c.in_ok-put_rows.ensures) c.row_at.ensures c.row_at-in-loop-i.ensures
