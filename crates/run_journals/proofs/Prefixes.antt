-- A list is the first part of another where each of its items is, one after the other.
use Rattle.std.proofs.Common.{◌≡◌, ℕ, Bool, true, List, [], ◌∷◌, ◌++◌, length, refl, sym, ap, ◌∙◌}
use Rattle.std.specs.Prelude.{◌==◌, ◌&&◌, slice_get}
use Rattle.std.proofs.Math.Bool.{and_assoc, and-true}
use Rattle.uid_names.proofs.Passed.{left-true, right-true}
use Rattle.node_runs.specs.Deliveries.{is_prefix}
use Rattle.run_journals.specs.Places.{is_this}

pub prefix-push : (xs : List ℕ) (x : ℕ) (ys : List ℕ) → is_prefix (xs ++ x ∷ []) ys ≡ (is_prefix xs ys && is_this x (slice_get ys (length xs)))
prefix-push [] x [] = refl
prefix-push [] x (y ∷ ys) = and-true (x == y)
prefix-push (a ∷ xs) x [] = refl
prefix-push (a ∷ xs) x (y ∷ ys) =
    ap (λ b. (a == y) && b) (prefix-push xs x ys) ∙ sym (and_assoc (a == y) (is_prefix xs ys) (is_this x (slice_get ys (length xs))))

-- so an initial part of a first part is one
pub prefix-before : (xs ys zs : List ℕ) → is_prefix (xs ++ ys) zs ≡ true → is_prefix xs zs ≡ true
prefix-before [] ys zs is = refl
prefix-before (x ∷ xs) ys [] is = is
prefix-before (x ∷ xs) ys (z ∷ zs) is =
    both (x == z) (is_prefix xs zs) (left-true (x == z) (is_prefix (xs ++ ys) zs) is) (prefix-before xs ys zs (right-true (x == z) (is_prefix (xs ++ ys) zs) is))
  where
    both : (a b : Bool) → a ≡ true → b ≡ true → (a && b) ≡ true
    both a b first second = ap (λ c. c && b) first ∙ second
