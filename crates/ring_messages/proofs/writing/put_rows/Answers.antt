use Rattle.ring_messages.proofs.RowByRow.{one_more_row, one_more_is}
use Rattle.ring_messages.proofs.writing.put_rows.Goals as goal

pub loop-row-preserved : goal.loop-row-preserved
loop-row-preserved c = record {
  text = one_more_row c.args.out.now c.loop-row.out c.put_row.new.out c.args.rows.now c.loop-row.row-index c.row-item.result c.row-item.is c.loop-row-test.true c.loop-row.invariant.text c.in_ok-put_row.ensures.text;
  are_rows = one_more_is c.args.rows.now c.loop-row.row-index c.row-item.result c.row-item.is c.loop-row-test.true c.loop-row.invariant.are_rows c.in_ok-put_row.ensures.is_row;
}
