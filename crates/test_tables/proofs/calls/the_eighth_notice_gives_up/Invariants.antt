use Rattle.std.proofs.Common.{◌≡◌}
use Rattle.test_tables.proofs.calls.the_eighth_notice_gives_up.Given as goal

abbrev pub invariant-loop : goal.invariant-loop
invariant-loop g l = l.asking.notices ≡ l.counter
