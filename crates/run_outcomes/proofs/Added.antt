-- A number is added where the outcome stands, or behind all.
use Rattle.std.proofs.Common.{◌≡◌, ℕ, zero, suc, ◌+◌, ◌<◌, Bool, true, false, List, [], ◌∷◌, length, get_or, slice_set, Some, None, cond, nat_lt, refl, arith, sym, ap, ◌∙◌, count_by}
use Rattle.std.specs.List.{list_any, position}
use Rattle.std.proofs.lemmas.List.Quantifiers.{position-Some}
use Rattle.uid_names.proofs.ListLemmas.{by_cases, count_by-cons_passes, count_by-cons_fails, count_by-position_none}
use Rattle.run_outcomes.specs.declared.outcome.OutcomeRow.{OutcomeRow}
use Rattle.run_outcomes.specs.declared.tally.KeptOutcome.{KeptOutcome}
use Rattle.run_outcomes.specs.declared.tally.TheConstants.{KEPT_OUTCOMES}
use Rattle.run_outcomes.specs.Outcomes.{same_outcome}
use Rattle.run_outcomes.specs.Tallies.{Tallied, fresh_row, noted, noted_in, is_kept, tallied, tallied_by, with_more, more_in, row_tallied, row_tallied_by}

-- none passes where none is counted
any-uncounted : {X : Type 0} (p : X → Bool) (xs : List X) → count_by p xs ≡ 0 → list_any p xs ≡ false
any-uncounted p [] none = refl
any-uncounted p (x ∷ xs) none =
    by_cases
    (p x)
    (list_any p (x ∷ xs) ≡ false)
    (λ is. absurd (omega (arith, count_by-cons_passes p x xs is)))
    (λ is. rw is (any-uncounted p xs (omega (arith, count_by-cons_fails p x xs is))))

-- an outcome that stands nowhere is not kept
pub is_kept-nowhere : (outcome : List OutcomeRow) (rows : List KeptOutcome) → position (λ k. same_outcome k.outcome outcome) rows ≡ None → is_kept outcome rows ≡ false
is_kept-nowhere outcome rows nowhere = any-uncounted (λ k. same_outcome k.outcome outcome) rows (count_by-position_none (λ k. same_outcome k.outcome outcome) rows nowhere)

-- one that passes at a place passes
any-at : {X : Type 0} (p : X → Bool) (xs : List X) (i : ℕ) (d : X) → i < length xs → p (get_or xs i d) ≡ true → list_any p xs ≡ true
any-at p [] i d low is = absurd (omega (arith, low))
any-at p (x ∷ xs) zero d low is = rw is refl
any-at p (x ∷ xs) (suc i) d low is = by_cases (p x) (list_any p (x ∷ xs) ≡ true) (λ first. rw first refl) (λ first. rw first (any-at p xs i d (omega (arith, low)) is))

-- ---- one number is a row of its own

abbrev tally : List KeptOutcome → ℕ → ℕ → Tallied
tally rows rest added = record { rows = rows; rest = rest; added = added }

pub noted_in-more : (number : ℕ) (o : List OutcomeRow) (rows : List KeptOutcome) → noted_in number o rows ≡ more_in (fresh_row number o) rows
noted_in-more number o [] = refl
noted_in-more number o (row ∷ rows) = ap (λ rest. cond (same_outcome row.outcome o) (noted number row ∷ rows) (row ∷ rest)) (noted_in-more number o rows)

tallied-by : (kept room : Bool) (number : ℕ) (o : List OutcomeRow) (t : Tallied) → tallied_by kept room number o t ≡ row_tallied_by kept room (fresh_row number o) t
tallied-by true room number o t = ap (λ rows. tally rows t.rest (t.added + 1)) (noted_in-more number o t.rows)
tallied-by false true number o t = refl
tallied-by false false number o t = refl

pub tallied-row : (number : ℕ) (o : List OutcomeRow) (t : Tallied) → tallied number o t ≡ row_tallied (fresh_row number o) t
tallied-row number o t = tallied-by (is_kept o t.rows) (nat_lt (length t.rows) KEPT_OUTCOMES) number o t

-- ---- where an outcome stands

-- the first row of an outcome is the one that is set
more-at : (more : KeptOutcome) (rows : List KeptOutcome) (i : ℕ) (d : KeptOutcome) → i < length rows → same_outcome (get_or rows i d).outcome more.outcome ≡ true → ((k : ℕ) → k < i → same_outcome (get_or rows k d).outcome more.outcome ≡ false) → slice_set rows i (with_more more (get_or rows i d)) ≡ more_in more rows
more-at more [] i d low is first = absurd (omega (arith, low))
more-at more (row ∷ rows) zero d low is first = rw is refl
more-at more (row ∷ rows) (suc i) d low is first =
    let other : same_outcome row.outcome more.outcome ≡ false = first 0 (omega arith) in
    rw other (ap (λ rest. row ∷ rest) (more-at more rows i d (omega (arith, low)) is (λ k below. first (suc k) (omega (arith, below)))))

-- so many numbers more gave an outcome that stands at a place
pub more-there : (more : KeptOutcome) (t : Tallied) (at : ℕ) (was now : KeptOutcome) → position (λ k. same_outcome k.outcome more.outcome) t.rows ≡ Some at → was ≡ get_or t.rows at was → now ≡ with_more more was → record { rows = slice_set t.rows at now; rest = t.rest; added = t.added + more.count } ≡ row_tallied more t
more-there more t at was now place stands is =
    let tells = position-Some (λ k. same_outcome k.outcome more.outcome) t.rows at was place in
    let made : slice_set t.rows at now ≡ more_in more t.rows =
    ap (λ x. slice_set t.rows at x) (is ∙ ap (with_more more) stands) ∙ more-at more t.rows at was tells.0 tells.1 tells.2 in
    let kept : is_kept more.outcome t.rows ≡ true = any-at (λ k. same_outcome k.outcome more.outcome) t.rows at was tells.0 tells.1 in
    rw kept (ap (λ rows. record { rows = rows; rest = t.rest; added = t.added + more.count }) made)

-- one number more did
pub add-there : (number : ℕ) (outcome : List OutcomeRow) (t : Tallied) (at : ℕ) (was now : KeptOutcome) → position (λ k. same_outcome k.outcome outcome) t.rows ≡ Some at → was ≡ get_or t.rows at was → now ≡ noted number was → record { rows = slice_set t.rows at now; rest = t.rest; added = t.added + 1 } ≡ tallied number outcome t
add-there number outcome t at was now place stands is = more-there (fresh_row number outcome) t at was now place stands is ∙ sym (tallied-row number outcome t)
