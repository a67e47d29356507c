-- The marks that a node took, each with its node and phase.
use Rattle.std.specs.Prelude.{ℕ, ◌==◌, Bool, ◌&&◌, List}
use Rattle.std.specs.List.{list_any}

abbrev pub is_taken : List (ℕ × ℕ) → ℕ → ℕ → Bool
is_taken marks from phase = list_any (λ m. (m.0 == from) && (m.1 == phase)) marks
