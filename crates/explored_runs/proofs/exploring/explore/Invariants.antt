use Rattle.std.proofs.Common.{◌-◌, ◌≤◌}
use Rattle.explored_runs.specs.Explored.{IsExplored}
use Rattle.explored_runs.proofs.exploring.explore.Given as goal

abbrev pub invariant-loop-next : goal.invariant-loop-next
invariant-loop-next g l = IsExplored l.script l.first l.next l.explored × (l.next ≤ l.end) × (l.first ≤ l.next)

abbrev pub decreases-loop-next : goal.decreases-loop-next
decreases-loop-next g l = l.end - l.next
