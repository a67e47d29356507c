use Rattle.std.proofs.Common.{◌≡◌}
use Rattle.run_outcomes.specs.Differing.{rows_up_to}
use Rattle.run_outcomes.proofs.difference.differences.Given as goal

abbrev pub invariant-loop-i : goal.invariant-loop-i
invariant-loop-i l = l.all ≡ rows_up_to l.i l.first l.second
