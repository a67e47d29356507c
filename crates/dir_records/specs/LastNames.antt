-- The last of some names.
use Rattle.std.specs.Prelude.{ℕ, Option, Some, None, List, [], ◌∷◌}

-- the names before the last one, and that
abbrev pub behind_first : List ℕ → Option (List (List ℕ) × List ℕ) → Option (List (List ℕ) × List ℕ)
behind_first name None = Some ([], name)
behind_first name (Some (front, last)) = Some (name ∷ front, last)

abbrev pub last_of : List (List ℕ) → Option (List (List ℕ) × List ℕ)
last_of [] = None
last_of (name ∷ names) = behind_first name (last_of names)
