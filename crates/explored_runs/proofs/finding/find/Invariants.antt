use Rattle.std.proofs.Common.{◌-◌, ◌≤◌}
use Rattle.explored_runs.specs.Sought.{HasNone}
use Rattle.explored_runs.proofs.finding.find.Given as goal

abbrev pub invariant-loop-next : goal.invariant-loop-next
invariant-loop-next g l = HasNone l.script l.words l.first l.next × (l.first ≤ l.next) × (l.next ≤ l.end)

abbrev pub decreases-loop-next : goal.decreases-loop-next
decreases-loop-next g l = l.end - l.next
