use Rattle.dom_history.proofs.RowOrder.{rows-rise, rows-at_home}
use Rattle.dom_history.proofs.laws.lock_rows_are_in_order.Goals as goal

pub returns-clause-rise : goal.returns-clause-rise
returns-clause-rise c = rows-rise

pub returns-clause-of_home : goal.returns-clause-of_home
returns-clause-of_home c = rows-at_home
