-- The names of the nodes, by number.
use Rattle.std.specs.Prelude.{ℕ, ◌≢◌, ◌-◌, ◌≤◌, Option, List, length, slice_get, All, AllPairs}
use Rattle.uid_names.specs.NameTexts.{IsNameText}
use Rattle.uid_names.specs.declared.limits.TheConstants.{MAX_NODES}

-- a name for each of some nodes, no two of them equal
pub record AreNodeNames (names : List (List ℕ)) : Type 0 where
  pub some : 1 ≤ length names
  pub few : length names ≤ MAX_NODES
  pub texts : All IsNameText names
  pub once : AllPairs (λ a b. a ≢ b) names

-- the name of a node; the first is that of node 1
abbrev pub name_of : List (List ℕ) → ℕ → Option (List ℕ)
name_of names node = slice_get names (node - 1)
