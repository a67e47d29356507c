use Rattle.std.proofs.Common.{◌≡◌, drop, length}
use Rattle.std.specs.Prelude.{bytes_eq}
use Rattle.std.specs.Cmp.Lexicographic.{pointwise}
use Rattle.run_outcomes.proofs.outcome.is_same_answers.Given as goal

abbrev pub invariant-loop-i : goal.invariant-loop-i
invariant-loop-i l = (length l.first ≡ length l.second) × (pointwise bytes_eq (drop l.i l.first) (drop l.i l.second) ≡ pointwise bytes_eq l.first l.second)
