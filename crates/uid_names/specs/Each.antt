-- What holds of each of a list, by recursion.
use Rattle.std.specs.Prelude.{List, [], ◌∷◌}

-- P holds of each
abbrev pub EachOf : {A : Type 0} → (A → Type 0) → List A → Type 0
EachOf P [] = Unit {0}
EachOf P (x ∷ xs) = P x × EachOf P xs
