-- Lists of processes that are alike are alike again after one of each was put in, and what the tests on marks and
-- programs have in common.
use Rattle.std.proofs.Common.{◌≡◌, ℕ, Bool, true, false, List, [], ◌∷◌, ◌++◌, length, inl, inr, refl, sym, ap, subst, ◌∙◌, arith}
use Rattle.std.specs.Prelude.{◌==◌, nat_lt, ◌&&◌, slice_index_or, slice_set}
use Rattle.std.specs.List.{list_any, list_all}
use Rattle.std.proofs.lemmas.Bool.{cases_eq}
use Rattle.std.proofs.lemmas.Bool.Decides.{nat_tests}
use Rattle.std.proofs.lemmas.List.{get_or-set_same, get_or-set_other, set_past}
use Rattle.uid_names.proofs.ListLemmas.{by_cases, list_all-one}
use Rattle.dom_history.specs.Follows.{Heard}
use Rattle.node_runs.specs.NodeStates.{ProcState}
use Rattle.node_runs.specs.Alikes.{AreAlikeProcs}

-- two processes that are alike after both were told the same
pub record AreToldAlike (old new other_old other_new : ProcState) : Type 0 where
  pub alike : AreAlikeProcs new other_new
  pub told : Heard
  pub here : new.heard ≡ told ++ old.heard
  pub there : other_new.heard ≡ told ++ other_old.heard

pub told-nothing : (q r : ProcState) → AreAlikeProcs q r → AreToldAlike q q r r
told-nothing q r alike = record { alike = alike; told = []; here = refl; there = refl }

-- what stands at a place of two lists as long as each other after one more was put in each
pub put-both : {A : Type 0} (P : A → A → A → A → Type 0) (kept other : List A) (i j : ℕ) (new other_new none : A) → length kept ≡ length other
    → P (slice_index_or kept j none) (slice_index_or kept j none) (slice_index_or other j none) (slice_index_or other j none)
    → P (slice_index_or kept i none) new (slice_index_or other i none) other_new
    → P (slice_index_or kept j none) (slice_index_or (slice_set kept i new) j none) (slice_index_or other j none) (slice_index_or (slice_set other i other_new) j none)
put-both {A} P kept other i j new other_new none long old put = elim (cases_eq j i) [
  | inr differs ↦
      subst (λ x. P (slice_index_or kept j none) (slice_index_or (slice_set kept i new) j none) (slice_index_or other j none) x) (sym (get_or-set_other other i j other_new none differs))
      (subst (λ x. P (slice_index_or kept j none) x (slice_index_or other j none) (slice_index_or other j none)) (sym (get_or-set_other kept i j new none differs)) old)
  | inl same ↦ by_cases (nat_lt i (length kept)) (P (slice_index_or kept j none) (slice_index_or (slice_set kept i new) j none) (slice_index_or other j none) (slice_index_or (slice_set other i other_new) j none))
      (λ h. subst (λ k. P (slice_index_or kept k none) (slice_index_or (slice_set kept i new) k none) (slice_index_or other k none) (slice_index_or (slice_set other i other_new) k none)) (sym same)
      (subst (λ x. P (slice_index_or kept i none) (slice_index_or (slice_set kept i new) i none) (slice_index_or other i none) x) (sym (get_or-set_same other i other_new none (grind (arith, nat_tests, h, long))))
      (subst (λ x. P (slice_index_or kept i none) x (slice_index_or other i none) other_new) (sym (get_or-set_same kept i new none (grind (arith, nat_tests, h)))) put)))
      (λ h. subst (λ xs. P (slice_index_or kept j none) (slice_index_or (slice_set kept i new) j none) (slice_index_or other j none) (slice_index_or xs j none)) (sym (set_past other i other_new (grind (arith, nat_tests, h, long))))
      (subst (λ xs. P (slice_index_or kept j none) (slice_index_or xs j none) (slice_index_or other j none) (slice_index_or other j none)) (sym (set_past kept i new (grind (arith, nat_tests, h)))) old))
]

-- tests that agree on each element agree on all
pub all-same : {A : Type 0} (f h : A → Bool) → ((x : A) → f x ≡ h x) → (xs : List A) → list_all f xs ≡ list_all h xs
all-same f h same [] = refl
all-same f h same (x ∷ xs) = ap (λ b. b && list_all f xs) (same x) ∙ ap (λ b. h x && b) (all-same f h same xs)

-- two tests of which each passes where the other does
both-ways : (b c : Bool) → (b ≡ true → c ≡ true) → (c ≡ true → b ≡ true) → b ≡ c
both-ways true c to from = sym (to refl)
both-ways false true to from = from refl
both-ways false false to from = refl

one-all : (f : ℕ → Bool) (xs : List ℕ) → ((p : ℕ) → list_any (λ q. q == p) xs ≡ true → f p ≡ true) → list_all f xs ≡ true
one-all f [] each = refl
one-all f (x ∷ xs) each =
    let first : f x ≡ true = each x (grind (arith, nat_tests)) in
    let rest : list_all f xs ≡ true = one-all f xs (λ p there. each p (by_cases (x == p) (list_any (λ q. q == p) (x ∷ xs) ≡ true) (λ e. rw e refl) (λ e. rw e there))) in
    rw (first, rest) refl

all-within : (f h : ℕ → Bool) (xs ys : List ℕ) → ((x : ℕ) → f x ≡ h x) → ((p : ℕ) → list_any (λ q. q == p) xs ≡ list_any (λ q. q == p) ys) → list_all f xs ≡ true → list_all h ys ≡ true
all-within f h xs ys same members all = one-all h ys (λ p there. sym (same p) ∙ list_all-one f xs p all (members p ∙ there))

-- tests that agree on each element pass alike on lists that have the same elements
pub all-alike : (f h : ℕ → Bool) (xs ys : List ℕ) → ((x : ℕ) → f x ≡ h x) → ((p : ℕ) → list_any (λ q. q == p) xs ≡ list_any (λ q. q == p) ys) → list_all f xs ≡ list_all h ys
all-alike f h xs ys same members =
    both-ways (list_all f xs) (list_all h ys) (all-within f h xs ys same members) (all-within h f ys xs (λ x. sym (same x)) (λ p. sym (members p)))
