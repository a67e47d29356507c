-- The last of some names.
use Rattle.std.proofs.Common.{◌≡◌, ◌≤◌, ℕ, Some, None, List, [], ◌∷◌, ◌++◌, length, drop, refl, ap, ◌∙◌}
use Rattle.std.proofs.lemmas.List.{drop-append-le}
use Rattle.std.proofs.Math.Seq.{drop-length}
use Rattle.dir_records.specs.LastNames.{last_of, behind_first}

-- the name that was put last
last_is : (front : List (List ℕ)) (name : List ℕ) → last_of (front ++ name ∷ []) ≡ Some (front, name)
last_is [] name = refl
last_is (x ∷ front) name = ap (behind_first x) (last_is front name)

-- the last name of those that are not passed
pub popped : (passed : ℕ) (all front : List (List ℕ)) (name : List ℕ) → all ≡ front ++ name ∷ [] → passed ≤ length front → last_of (drop passed all) ≡ Some (drop passed front, name)
popped passed all front name e h =
    ap (λ (names : List (List ℕ)). last_of (drop passed names)) e
    ∙ ap last_of (drop-append-le passed front (name ∷ []) h)
    ∙ last_is (drop passed front) name

-- there is none where all are passed
pub none_left : (passed : ℕ) (all : List (List ℕ)) → passed ≡ length all → last_of (drop passed all) ≡ None
none_left passed all e = ap (λ (n : ℕ). last_of (drop n all)) e ∙ ap last_of (drop-length all)
