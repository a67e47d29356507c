use Rattle.dom_history.proofs.Tables.{holds-rows, state-by_last}
use Rattle.dom_history.proofs.laws.lock_tables_say_the_last.Goals as goal

pub returns-clause-held : goal.returns-clause-held
returns-clause-held c = holds-rows

pub returns-clause-known : goal.returns-clause-known
returns-clause-known c = state-by_last
