use Rattle.std.proofs.Common.{◌≡◌, map, take}
use Rattle.explored_runs.specs.Came.{outcome_row}
use Rattle.explored_runs.proofs.came.outcome_of.Given as goal

abbrev pub invariant-loop-row : goal.invariant-loop-row
invariant-loop-row l = l.outcome ≡ map outcome_row (take l.row-index l.rows)
