-- Tests of words, and the facts that they decide.
use Rattle.std.proofs.Common.{◌≡◌, ◌↔◌, ℕ, Bool, true, false, IsTrue, All, List, refl, sym}
use Rattle.std.specs.List.{list_all}
use Rattle.std.proofs.lemmas.Slice.Eq.{bytes_eq-Decides}
use Rattle.std.proofs.lemmas.List.Sums.{AllPass-from_list_all, list_all-from_AllPass}
use Rattle.std.specs.Prelude.{bytes_eq}

-- texts that a test finds the same
pub bytes_eq-true : (a b : List ℕ) → bytes_eq a b ≡ true → a ≡ b
bytes_eq-true a b e = (bytes_eq-Decides a b).0 e

-- and texts that are the same
pub bytes_eq-refl : (a b : List ℕ) → a ≡ b → bytes_eq a b ≡ true
bytes_eq-refl a b e = (bytes_eq-Decides a b).1 e

-- a test that decides that all pass is the test of all
pub passes_all : {X : Type 0} (p : X → Bool) (xs : List X) (r : Bool) → (IsTrue r ↔ All (λ b. IsTrue (p b)) xs) → r ≡ list_all p xs
passes_all p xs true h = sym (list_all-from_AllPass p xs (h.0 refl))
passes_all p xs false h = by_test (list_all p xs) refl where
  by_test : (t : Bool) → list_all p xs ≡ t → false ≡ t
  by_test true e = h.1 (AllPass-from_list_all p xs e)
  by_test false e = refl
