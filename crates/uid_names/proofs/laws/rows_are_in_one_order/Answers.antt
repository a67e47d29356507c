use Rattle.uid_names.proofs.Orders.{row_lt-trans, row_lt-total, row_lt-apart}
use Rattle.uid_names.proofs.laws.rows_are_in_one_order.Goals as goal

pub returns : goal.returns
returns c = record { onward = row_lt-trans; apart = row_lt-apart; total = row_lt-total }
