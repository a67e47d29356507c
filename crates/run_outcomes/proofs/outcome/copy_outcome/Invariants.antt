use Rattle.std.proofs.Common.{◌≡◌, take}
use Rattle.run_outcomes.proofs.outcome.copy_outcome.Given as goal

abbrev pub invariant-loop-row : goal.invariant-loop-row
invariant-loop-row l = l.copies ≡ take l.row-index l.outcome
