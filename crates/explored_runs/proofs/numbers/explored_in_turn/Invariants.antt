use Rattle.std.proofs.Common.{◌≤◌, ◌-◌}
use Rattle.explored_runs.specs.Explored.{AreParts}
use Rattle.explored_runs.proofs.numbers.explored_in_turn.Given as goal

abbrev pub invariant-loop-next : goal.invariant-loop-next
invariant-loop-next l = AreParts l.script l.from l.next l.parts.items × (l.next ≤ l.to)

abbrev pub decreases-loop-next : goal.decreases-loop-next
decreases-loop-next l = l.to - l.next
