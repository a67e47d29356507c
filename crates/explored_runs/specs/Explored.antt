-- What came of a script in the turns of each of many numbers, counted.
use Rattle.std.specs.Prelude.{ℕ, ◌+◌, ◌≡◌, List, [], ◌∷◌, length}
use Rattle.script_reader.specs.Scripts.{Content}
use Rattle.explored_counts.specs.declared.came.CameOf.{CameOf}
use Rattle.explored_counts.specs.declared.seen.Explored.{Explored}
use Rattle.explored_counts.specs.Seen.{empty_explored, explored_from}
use Rattle.explored_runs.specs.Came.{AreCameOf}

-- of a script in the turns of each number from one up to another, which is none of them, something came, and all of it is counted, by rising number
pub record IsExplored (s : Content) (from to : ℕ) (e : Explored) : Type 0 where
  pub came : List CameOf
  pub are : AreCameOf s from came
  pub all : from + length came ≡ to
  pub counted : e ≡ explored_from from came empty_explored

-- each of these is such a count, of which all outcomes are kept; the first begins with one number, each other where the one before it ends, up to the last number
abbrev pub AreParts : Content → ℕ → ℕ → List Explored → Type 0
AreParts s from to [] = from ≡ to
AreParts s from to (part ∷ rest) = (middle : ℕ) × IsExplored s from middle part × (part.tally.rest ≡ 0) × AreParts s middle to rest
