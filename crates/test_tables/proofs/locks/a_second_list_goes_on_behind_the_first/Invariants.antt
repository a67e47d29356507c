use Rattle.std.proofs.Common.{◌≤◌}
use Rattle.test_tables.proofs.locks.a_second_list_goes_on_behind_the_first.Given as goal

abbrev pub invariant-loop-at : goal.invariant-loop-at
invariant-loop-at g l = l.locks.last ≤ l.at
