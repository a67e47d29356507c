-- The fates that a script can give.
use Rattle.std.specs.Prelude.{ℕ, ◌≤◌}
use Rattle.dom_history.specs.declared.plan.Fate.{Fate}
use Rattle.dom_history.specs.declared.plan.Fate.TheVariants.{Pass, Lose, Twice, Late}
use Rattle.dom_history.specs.declared.plan.FateRow.{FateRow}

-- a fate that a script can give a frame
abbrev pub IsGivenFate : Fate → Type 0
IsGivenFate Pass = ⊥
IsGivenFate Lose = Unit {0}
IsGivenFate (Twice n) = (1 ≤ n) × (n ≤ 1000)
IsGivenFate (Late n) = (1 ≤ n) × (n ≤ 1000)

-- a fate of a frame between two nodes, numbered from 1
pub record IsFateRow (nodes : ℕ) (row : FateRow) : Type 0 where
  pub from : row.from ≤ nodes
  pub to : row.to ≤ nodes
  pub index_low : 1 ≤ row.index
  pub index_high : row.index ≤ 1000000
  pub fate : IsGivenFate row.fate
