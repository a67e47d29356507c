use Rattle.std.proofs.Common.{◌≡◌, drop, length}
use Rattle.run_outcomes.specs.Outcomes.{same_row}
use Rattle.std.specs.Cmp.Lexicographic.{pointwise}
use Rattle.run_outcomes.proofs.outcome.is_same_outcome.Given as goal

abbrev pub invariant-loop-i : goal.invariant-loop-i
invariant-loop-i l = (length l.first ≡ length l.second) × (pointwise same_row (drop l.i l.first) (drop l.i l.second) ≡ pointwise same_row l.first l.second)
