-- Dropped pages that are written one after the other.
use Rattle.std.proofs.Common.{◌≡◌, ℕ, ◌+◌, ◌<◌, ◌≤◌, List, [], ◌∷◌, ◌++◌, take, length, get_or, ap, ◌∙◌, sym, append_assoc, append-nil, arith, length-append}
use Rattle.std.specs.List.{flat_map}
use Rattle.std.proofs.lemmas.List.{take_more}
use Rattle.std.proofs.lemmas.List.Concat.{flat_map-append}
use Rattle.std.proofs.lemmas.List.Folds.{length-flat_map-take}

-- the text of one element more
pub one_more : {X : Type 0} (f : X → List ℕ) (old : List ℕ) (xs : List X) (i : ℕ) (x : X) → x ≡ get_or xs i x → i < length xs → (old ++ flat_map f (take i xs)) ++ f x ≡ old ++ flat_map f (take (i + 1) xs)
one_more {X} f old xs i x is lt =
    let taken : take (i + 1) xs ≡ take i xs ++ x ∷ [] = take_more xs i x lt ∙ ap (λ (r : X). take i xs ++ r ∷ []) (sym is) in
    append_assoc old (flat_map f (take i xs)) (f x)
    ∙ ap (λ (r : List ℕ). old ++ r) (sym (ap (flat_map f) taken ∙ flat_map-append f (take i xs) (x ∷ []) ∙ ap (λ (r : List ℕ). flat_map f (take i xs) ++ r) (append-nil (f x))))

-- and there is room for it
pub one_more_fits : {X : Type 0} (f : X → List ℕ) (old : List ℕ) (xs : List X) (i room : ℕ) (x : X) → x ≡ get_or xs i x → i < length xs → length old + length (flat_map f xs) ≤ room → length (old ++ flat_map f (take i xs)) + length (f x) ≤ room
one_more_fits {X} f old xs i room x is lt fits =
    let bound = length-flat_map-take f xs i x lt in
    let same : length (f x) ≡ length (f (get_or xs i x)) = ap (λ (r : X). length (f r)) is in
    omega (arith, length-append old (flat_map f (take i xs)), bound, same, fits)
