use Rattle.std.proofs.Common.{◌≡◌, ◌++◌}
use Rattle.run_outcomes.specs.Differing.{answers_up_to}
use Rattle.run_outcomes.proofs.difference.put_answers.Given as goal

abbrev pub invariant-loop-i : goal.invariant-loop-i
invariant-loop-i l = l.to ≡ l.initial.to ++ answers_up_to l.i l.proc l.first l.second
