use Rattle.std.proofs.Common.{◌≡◌, ◌+◌}
use Rattle.explored_counts.specs.Seen.{total_of}
use Rattle.explored_runs.specs.Explored.{IsExplored}
use Rattle.explored_runs.proofs.numbers.explored_part.Given as goal

abbrev pub invariant-loop-number : goal.invariant-loop-number
invariant-loop-number l = IsExplored l.script l.from l.number l.explored × (l.from + total_of l.explored ≡ l.number)
