use Rattle.ring_messages.proofs.RowByRow.{one_more_is}
use Rattle.node_posts.proofs.known.rows_known.Goals as goal

pub loop-row-preserved : goal.loop-row-preserved
loop-row-preserved c =
    one_more_is c.args.rows.now c.loop-row.row-index c.row-item.result c.row-item.is c.loop-row-test.true c.loop-row.invariant c.row_known.ensures
