use Rattle.std.proofs.Common.{◌≡◌, ◌++◌, take}
use Rattle.explored_counts.specs.Told.{outcome_texts}
use Rattle.explored_counts.proofs.texts.put_outcomes.Given as goal

abbrev pub invariant-loop-row : goal.invariant-loop-row
invariant-loop-row l = l.to ≡ l.initial.to ++ outcome_texts l.names l.total l.common (take l.row-index l.rows)
