use Rattle.page_server.proofs.Sides.{decided-home, decided-table}
use Rattle.page_server.proofs.laws.a_decision_leaves_a_home_and_a_table.Goals as goal

pub returns : goal.returns
returns c = record {
  home = λ home locks p ask kept range. decided-home home kept locks p ask range;
  table = λ home locks p ask kept. decided-table locks kept home p ask;
}
