-- Outcomes that pass as the same are the same.
use Rattle.std.proofs.Common.{◌≡◌, ◌↔◌, Bool, true, List, [], ◌∷◌, refl, ap, subst, ◌∙◌}
use Rattle.std.specs.Cmp.Lexicographic.{pointwise}
use Rattle.std.specs.Prelude.{bytes_eq}
use Rattle.std.proofs.lemmas.Slice.Eq.{bytes_eq-Decides}
use Rattle.uid_names.specs.Names.{same_proc}
use Rattle.uid_names.proofs.Orders.{same_proc_is, same_proc-itself}
use Rattle.uid_names.proofs.Passed.{left-true, right-true}
use Rattle.run_outcomes.specs.declared.outcome.OutcomeRow.{OutcomeRow}
use Rattle.run_outcomes.specs.Outcomes.{same_answers, same_row, same_outcome}

module _ {K : Type 0} (E : K → K → Bool) where
  -- where each pair that passes is one, so is each pair of lists
  list-same : ((x y : K) → E x y ≡ true → x ≡ y) → (xs ys : List K) → pointwise E xs ys ≡ true → xs ≡ ys
  list-same each [] [] is = refl
  list-same each [] (y ∷ ys) is = absurd (cc)
  list-same each (x ∷ xs) [] is = absurd (cc)
  list-same each (x ∷ xs) (y ∷ ys) is =
      ap (λ z. z ∷ xs) (each x y (left-true (E x y) (pointwise E xs ys) is)) ∙ ap (λ zs. y ∷ zs) (list-same each xs ys (right-true (E x y) (pointwise E xs ys) is))

  -- where each is the same as itself, so is each list
  list-own : ((x : K) → E x x ≡ true) → (xs : List K) → pointwise E xs xs ≡ true
  list-own each [] = refl
  list-own each (x ∷ xs) = rw (each x) (list-own each xs)

row-same : (r s : OutcomeRow) → same_row r s ≡ true → r ≡ s
row-same r s is =
    let proc = same_proc_is r.proc s.proc (left-true (same_proc r.proc s.proc) (same_answers r.answers s.answers) is) in
    let answers = list-same bytes_eq (λ x y same. (bytes_eq-Decides x y).0 same) r.answers s.answers (right-true (same_proc r.proc s.proc) (same_answers r.answers s.answers) is) in
    ap (λ p. record { proc = p; answers = r.answers }) proc ∙ ap (λ a. record { proc = s.proc; answers = a }) answers

row-own : (r : OutcomeRow) → same_row r r ≡ true
row-own r = rw (same_proc-itself r.proc) (list-own bytes_eq (λ x. (bytes_eq-Decides x x).1 refl) r.answers)

pub outcome-same : (a b : List OutcomeRow) → same_outcome a b ≡ true → a ≡ b
outcome-same a b is = list-same same_row row-same a b is

pub outcome-own : (a : List OutcomeRow) → same_outcome a a ≡ true
outcome-own a = list-own same_row row-own a

pub same_outcome_is : (a b : List OutcomeRow) → (same_outcome a b ≡ true) ↔ (a ≡ b)
same_outcome_is a b = (outcome-same a b, λ e. subst (λ x. same_outcome a x ≡ true) e (outcome-own a))
