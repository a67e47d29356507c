use Rattle.explored_runs.specs.Sought.{HasNone}
use Rattle.explored_runs.proofs.numbers.found_in_turn.Given as goal

abbrev pub invariant-loop-number : goal.invariant-loop-number
invariant-loop-number l = HasNone l.script l.words l.from l.number
