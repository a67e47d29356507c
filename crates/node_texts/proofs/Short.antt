-- The names of nodes are short.
use Rattle.std.proofs.Common.{◌≡◌, ℕ, ◌-◌, ◌≤◌, Option, Some, None, List, [], length, refl, subst, arith}
use Rattle.std.specs.Prelude.{slice_get, unwrap_or}
use Rattle.std.proofs.lemmas.Option.{slice_get_within, get_or_from_slice_get}
use Rattle.dom_history.specs.NodeTexts.{AreNodeNames}
use Rattle.node_texts.specs.Texts.{node_text}

name-in-short : (names : List (List ℕ)) (k : ℕ) (found : Option (List ℕ)) → AreNodeNames names → slice_get names k ≡ found → length (unwrap_or found []) ≤ 32
name-in-short names k None are is = omega arith
name-in-short names k (Some name) are is =
    subst (λ (n : List ℕ). length n ≤ 32) (get_or_from_slice_get names k name [] is) (are.texts k [] (slice_get_within names k name is)).few

-- the name of a node
pub name_short : (names : List (List ℕ)) (n : ℕ) → AreNodeNames names → length (node_text names n) ≤ 32
name_short names n are = name-in-short names (n - 1) (slice_get names (n - 1)) are refl
