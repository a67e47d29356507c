use Rattle.std.proofs.Common.{◌≡◌, ◌<◌, ◌≤◌, ℕ, false, length, Some}
use Rattle.std.specs.Prelude.{slice_get}
use Rattle.run_outcomes.specs.declared.tally.KeptOutcome.{KeptOutcome}
use Rattle.run_outcomes.specs.Tallies.{is_commoner}
use Rattle.run_outcomes.proofs.tally.commonest.Given as goal

abbrev pub invariant-loop-i : goal.invariant-loop-i
invariant-loop-i l =
    (l.best < length l.rows) × (1 ≤ length l.rows)
    × ((k : ℕ) (row other : KeptOutcome) → k < l.i → slice_get l.rows l.best ≡ Some row → slice_get l.rows k ≡ Some other → is_commoner other row ≡ false)
