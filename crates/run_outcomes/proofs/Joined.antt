-- To add the rows of a tally is to add, one after another, all numbers that it counts.
use Rattle.std.proofs.Common.{◌≡◌, ℕ, suc, ◌+◌, ◌<◌, ◌≤◌, ◌⊎◌, inl, inr, Bool, true, false, ◌||◌, List, [], ◌∷◌, ◌++◌, length, nat_lt, min, refl, arith, sym, ap, subst, ◌∙◌}
use Rattle.std.proofs.lemmas.Bool.Decides.{nat_tests}
use Rattle.std.proofs.lemmas.List.Folds.{list_any-append}
use Rattle.uid_names.proofs.ListLemmas.{by_cases, length-push}
use Rattle.run_outcomes.specs.declared.outcome.OutcomeRow.{OutcomeRow}
use Rattle.run_outcomes.specs.declared.tally.KeptOutcome.{KeptOutcome}
use Rattle.run_outcomes.specs.declared.tally.TheConstants.{KEPT_OUTCOMES}
use Rattle.run_outcomes.specs.Outcomes.{same_outcome}
use Rattle.run_outcomes.specs.Tallies.{Tallied, fresh_row, noted_in, is_kept, tallied, tallied_by, with_more, more_in, row_tallied, row_tallied_by, rows_tallied}
use Rattle.run_outcomes.specs.Counts.{Gave, tally_of}
use Rattle.run_outcomes.proofs.Added.{noted_in-more, tallied-row}
use Rattle.run_outcomes.proofs.Counted.{tally_of_more}
use Rattle.run_outcomes.proofs.Same.{outcome-same, outcome-own}

abbrev has_room : List KeptOutcome → Bool
has_room rows = nat_lt (length rows) KEPT_OUTCOMES

abbrev tally : List KeptOutcome → ℕ → ℕ → Tallied
tally rows rest added = record { rows = rows; rest = rest; added = added }

of_parts : (a b : List KeptOutcome) (r q n m : ℕ) → a ≡ b → r ≡ q → n ≡ m → tally a r n ≡ tally b q m
of_parts a b r q n m rows rest added = rw (rows, rest, added) refl

-- ---- what stays with more in a row

module _ (more : KeptOutcome) where
  length-more : (rows : List KeptOutcome) → length (more_in more rows) ≡ length rows
  length-more [] = refl
  length-more (row ∷ rows) =
      by_cases
      (same_outcome row.outcome more.outcome)
      (length (more_in more (row ∷ rows)) ≡ length (row ∷ rows))
      (λ is. rw is refl)
      (λ is. rw is (ap suc (length-more rows)))

  kept-more : (o : List OutcomeRow) (rows : List KeptOutcome) → is_kept o (more_in more rows) ≡ is_kept o rows
  kept-more o [] = refl
  kept-more o (row ∷ rows) =
      by_cases
      (same_outcome row.outcome more.outcome)
      (is_kept o (more_in more (row ∷ rows)) ≡ is_kept o (row ∷ rows))
      (λ is. rw is refl)
      (λ is. rw is (ap (λ b. same_outcome row.outcome o || b) (kept-more o rows)))

  -- behind rows that have its outcome, and behind some that have not
  more-before : (rows : List KeptOutcome) (row : KeptOutcome) → is_kept more.outcome rows ≡ true → more_in more (rows ++ row ∷ []) ≡ more_in more rows ++ row ∷ []
  more-before [] row kept = absurd (cc)
  more-before (first ∷ rows) row kept =
      by_cases
      (same_outcome first.outcome more.outcome)
      (more_in more (first ∷ rows ++ row ∷ []) ≡ more_in more (first ∷ rows) ++ row ∷ [])
      (λ is. rw is refl)
      (λ is. rw is (ap (λ rest. first ∷ rest) (more-before rows row (rw is at kept))))

  more-last : (rows : List KeptOutcome) (row : KeptOutcome) → is_kept more.outcome rows ≡ false → same_outcome row.outcome more.outcome ≡ true → more_in more (rows ++ row ∷ []) ≡ rows ++ with_more more row ∷ []
  more-last [] row kept same = rw same refl
  more-last (first ∷ rows) row kept same =
      by_cases
      (same_outcome first.outcome more.outcome)
      (more_in more (first ∷ rows ++ row ∷ []) ≡ first ∷ rows ++ with_more more row ∷ [])
      (λ is. absurd (let h : true ≡ false = rw is at kept in cc))
      (λ is. rw is (ap (λ rest. first ∷ rest) (more-last rows row (rw is at kept) same)))

  last-kept : (rows : List KeptOutcome) → is_kept more.outcome (rows ++ more ∷ []) ≡ true
  last-kept rows =
      list_any-append (λ row. same_outcome row.outcome more.outcome) rows (more ∷ [])
      ∙ by_cases
      (is_kept more.outcome rows)
      ((is_kept more.outcome rows || is_kept more.outcome (more ∷ [])) ≡ true)
      (λ is. rw is refl)
      (λ is. rw (is, outcome-own more.outcome) refl)

kept-push : (o : List OutcomeRow) (rows : List KeptOutcome) (row : KeptOutcome) → is_kept o rows ≡ true → is_kept o (rows ++ row ∷ []) ≡ true
kept-push o rows row kept = list_any-append (λ k. same_outcome k.outcome o) rows (row ∷ []) ∙ rw kept refl

-- ---- rows of two outcomes, in either order

with_more-two : (g k row : KeptOutcome) → with_more k (with_more g row) ≡ with_more g (with_more k row)
with_more-two g k row =
    let counts : (row.count + g.count) + k.count ≡ (row.count + k.count) + g.count = omega arith in
    let lowest : min k.lowest (min g.lowest row.lowest) ≡ min g.lowest (min k.lowest row.lowest) = grind arith in
    rw (counts, lowest) refl

more-first : (more row : KeptOutcome) (rows : List KeptOutcome) → same_outcome row.outcome more.outcome ≡ true → more_in more (row ∷ rows) ≡ with_more more row ∷ rows
more-first more row rows is = rw is refl

more-next : (more row : KeptOutcome) (rows : List KeptOutcome) → same_outcome row.outcome more.outcome ≡ false → more_in more (row ∷ rows) ≡ row ∷ more_in more rows
more-next more row rows is = rw is refl

abbrev AreOne : KeptOutcome → KeptOutcome → List KeptOutcome → Type 0
AreOne g k rows = more_in k (more_in g rows) ≡ more_in g (more_in k rows)

more_in-two : (g k : KeptOutcome) (rows : List KeptOutcome) → AreOne g k rows
more_in-two g k [] = refl
more_in-two g k (row ∷ rows) = by_cases (same_outcome row.outcome g.outcome) (AreOne g k (row ∷ rows)) (λ is. by_cases (same_outcome row.outcome k.outcome) (AreOne g k (row ∷ rows)) (both is) (first is)) (λ is. by_cases (same_outcome row.outcome k.outcome) (AreOne g k (row ∷ rows)) (second is) (neither (more_in-two g k rows) is))
  where
    both : same_outcome row.outcome g.outcome ≡ true → same_outcome row.outcome k.outcome ≡ true → AreOne g k (row ∷ rows)
    both is also =
        ap (more_in k) (more-first g row rows is) ∙ more-first k (with_more g row) rows also
        ∙ ap (λ one. one ∷ rows) (with_more-two g k row)
        ∙ sym (ap (more_in g) (more-first k row rows also) ∙ more-first g (with_more k row) rows is)

    first : same_outcome row.outcome g.outcome ≡ true → same_outcome row.outcome k.outcome ≡ false → AreOne g k (row ∷ rows)
    first is other =
        ap (more_in k) (more-first g row rows is) ∙ more-next k (with_more g row) rows other
        ∙ sym (ap (more_in g) (more-next k row rows other) ∙ more-first g row (more_in k rows) is)

    second : same_outcome row.outcome g.outcome ≡ false → same_outcome row.outcome k.outcome ≡ true → AreOne g k (row ∷ rows)
    second is also =
        ap (more_in k) (more-next g row rows is) ∙ more-first k row (more_in g rows) also
        ∙ sym (ap (more_in g) (more-first k row rows also) ∙ more-next g (with_more k row) rows is)

    neither : AreOne g k rows → same_outcome row.outcome g.outcome ≡ false → same_outcome row.outcome k.outcome ≡ false → AreOne g k (row ∷ rows)
    neither behind is other =
        ap (more_in k) (more-next g row rows is) ∙ more-next k row (more_in g rows) other
        ∙ ap (λ rest. row ∷ rest) behind
        ∙ sym (ap (more_in g) (more-next k row rows other) ∙ more-next g row (more_in k rows) is)

-- an outcome has a row, or there is no room for one
abbrev IsSettled : List OutcomeRow → Tallied → Type 0
IsSettled o t = (is_kept o t.rows ≡ true) ⊎ (has_room t.rows ≡ false)

full-more : (k : KeptOutcome) (rows : List KeptOutcome) → has_room rows ≡ false → has_room (more_in k rows) ≡ false
full-more k rows full = ap (λ n. nat_lt n KEPT_OUTCOMES) (length-more k rows) ∙ full

stays-by : (kept room : Bool) (k : KeptOutcome) (o : List OutcomeRow) (t : Tallied) → has_room t.rows ≡ room → IsSettled o t → IsSettled o (row_tallied_by kept room k t)
stays-by true room k o t has (inl kept) = inl (kept-more k o t.rows ∙ kept)
stays-by true room k o t has (inr full) = inr (full-more k t.rows full)
stays-by false true k o t has (inl kept) = inl (kept-push o t.rows k kept)
stays-by false true k o t has (inr full) = absurd (let h : true ≡ false = sym has ∙ full in cc)
stays-by false false k o t has settled = settled

stays-settled : (k : KeptOutcome) (o : List OutcomeRow) (t : Tallied) → IsSettled o t → IsSettled o (row_tallied k t)
stays-settled k o t settled = stays-by (is_kept k.outcome t.rows) (has_room t.rows) k o t refl settled

own-by : (kept room : Bool) (k : KeptOutcome) (t : Tallied) → is_kept k.outcome t.rows ≡ kept → has_room t.rows ≡ room → IsSettled k.outcome (row_tallied_by kept room k t)
own-by true room k t is has = inl (kept-more k k.outcome t.rows ∙ is)
own-by false true k t is has = inl (last-kept k t.rows)
own-by false false k t is has = inr has

own-settled : (k : KeptOutcome) (t : Tallied) → IsSettled k.outcome (row_tallied k t)
own-settled k t = own-by (is_kept k.outcome t.rows) (has_room t.rows) k t refl refl

-- what a row leads to, by what is known of its outcome and of the room
tallied-kept : (k : KeptOutcome) (t : Tallied) → is_kept k.outcome t.rows ≡ true → row_tallied k t ≡ record { rows = more_in k t.rows; rest = t.rest; added = t.added + k.count }
tallied-kept k t is = rw is refl

tallied-new : (k : KeptOutcome) (t : Tallied) → is_kept k.outcome t.rows ≡ false → has_room t.rows ≡ true → row_tallied k t ≡ record { rows = t.rows ++ k ∷ []; rest = t.rest; added = t.added + k.count }
tallied-new k t is has = rw (is, has) refl

tallied-full : (k : KeptOutcome) (t : Tallied) → is_kept k.outcome t.rows ≡ false → has_room t.rows ≡ false → row_tallied k t ≡ record { rows = t.rows; rest = t.rest + k.count; added = t.added + k.count }
tallied-full k t is has = rw (is, has) refl

module _ (g k : KeptOutcome) (t : Tallied) where
  abbrev with_g : Tallied
  with_g = record { rows = more_in g t.rows; rest = t.rest; added = t.added + g.count }

  abbrev beside_g : Tallied
  beside_g = record { rows = t.rows; rest = t.rest + g.count; added = t.added + g.count }

  abbrev with_k : Tallied
  with_k = record { rows = more_in k t.rows; rest = t.rest; added = t.added + k.count }

  abbrev behind_k : Tallied
  behind_k = record { rows = t.rows ++ k ∷ []; rest = t.rest; added = t.added + k.count }

  abbrev beside_k : Tallied
  beside_k = record { rows = t.rows; rest = t.rest + k.count; added = t.added + k.count }

  counts-two : (t.added + g.count) + k.count ≡ (t.added + k.count) + g.count
  counts-two = omega arith

  two-kept : is_kept g.outcome t.rows ≡ true → is_kept k.outcome t.rows ≡ true → row_tallied k with_g ≡ row_tallied g with_k
  two-kept mine other =
      tallied-kept k with_g (kept-more g k.outcome t.rows ∙ other)
      ∙ of_parts (more_in k (more_in g t.rows)) (more_in g (more_in k t.rows)) t.rest t.rest ((t.added + g.count) + k.count) ((t.added + k.count) + g.count) (more_in-two g k t.rows) refl counts-two
      ∙ sym (tallied-kept g with_k (kept-more k g.outcome t.rows ∙ mine))

  two-new : is_kept g.outcome t.rows ≡ true → is_kept k.outcome t.rows ≡ false → has_room t.rows ≡ true → row_tallied k with_g ≡ row_tallied g behind_k
  two-new mine other has =
      tallied-new k with_g (kept-more g k.outcome t.rows ∙ other) (ap (λ n. nat_lt n KEPT_OUTCOMES) (length-more g t.rows) ∙ has)
      ∙ of_parts (more_in g t.rows ++ k ∷ []) (more_in g (t.rows ++ k ∷ [])) t.rest t.rest ((t.added + g.count) + k.count) ((t.added + k.count) + g.count) (sym (more-before g t.rows k mine)) refl counts-two
      ∙ sym (tallied-kept g behind_k (kept-push g.outcome t.rows k mine))

  two-full : is_kept g.outcome t.rows ≡ true → is_kept k.outcome t.rows ≡ false → has_room t.rows ≡ false → row_tallied k with_g ≡ row_tallied g beside_k
  two-full mine other full =
      tallied-full k with_g (kept-more g k.outcome t.rows ∙ other) (full-more g t.rows full)
      ∙ of_parts (more_in g t.rows) (more_in g t.rows) (t.rest + k.count) (t.rest + k.count) ((t.added + g.count) + k.count) ((t.added + k.count) + g.count) refl refl counts-two
      ∙ sym (tallied-kept g beside_k mine)

  full-kept : is_kept g.outcome t.rows ≡ false → has_room t.rows ≡ false → is_kept k.outcome t.rows ≡ true → row_tallied k beside_g ≡ row_tallied g with_k
  full-kept mine full other =
      tallied-kept k beside_g other
      ∙ of_parts (more_in k t.rows) (more_in k t.rows) (t.rest + g.count) (t.rest + g.count) ((t.added + g.count) + k.count) ((t.added + k.count) + g.count) refl refl counts-two
      ∙ sym (tallied-full g with_k (kept-more k g.outcome t.rows ∙ mine) (full-more k t.rows full))

  full-full : is_kept g.outcome t.rows ≡ false → has_room t.rows ≡ false → is_kept k.outcome t.rows ≡ false → row_tallied k beside_g ≡ row_tallied g beside_k
  full-full mine full other =
      tallied-full k beside_g other full
      ∙ of_parts t.rows t.rows ((t.rest + g.count) + k.count) ((t.rest + k.count) + g.count) ((t.added + g.count) + k.count) ((t.added + k.count) + g.count) refl (omega arith) counts-two
      ∙ sym (tallied-full g beside_k mine full)

  abbrev Commute : Type 0
  Commute = row_tallied k (row_tallied g t) ≡ row_tallied g (row_tallied k t)

  kept-commutes : is_kept g.outcome t.rows ≡ true → Commute
  kept-commutes mine =
      ap (row_tallied k) (tallied-kept g t mine)
      ∙ by_cases
      (is_kept k.outcome t.rows)
      (row_tallied k with_g ≡ row_tallied g (row_tallied k t))
      (λ other. two-kept mine other ∙ sym (ap (row_tallied g) (tallied-kept k t other)))
      (λ other. by_cases
      (has_room t.rows)
      (row_tallied k with_g ≡ row_tallied g (row_tallied k t))
      (λ has. two-new mine other has ∙ sym (ap (row_tallied g) (tallied-new k t other has)))
      (λ full. two-full mine other full ∙ sym (ap (row_tallied g) (tallied-full k t other full))))

  full-commutes : is_kept g.outcome t.rows ≡ false → has_room t.rows ≡ false → Commute
  full-commutes mine full =
      ap (row_tallied k) (tallied-full g t mine full)
      ∙ by_cases
      (is_kept k.outcome t.rows)
      (row_tallied k beside_g ≡ row_tallied g (row_tallied k t))
      (λ other. full-kept mine full other ∙ sym (ap (row_tallied g) (tallied-kept k t other)))
      (λ other. full-full mine full other ∙ sym (ap (row_tallied g) (tallied-full k t other full)))

  commutes : IsSettled g.outcome t → Commute
  commutes (inl kept) = kept-commutes kept
  commutes (inr full) = by_cases (is_kept g.outcome t.rows) Commute kept-commutes (λ mine. full-commutes mine full)

rows-commute : (g : KeptOutcome) (rows : List KeptOutcome) (t : Tallied) → IsSettled g.outcome t → rows_tallied rows (row_tallied g t) ≡ row_tallied g (rows_tallied rows t)
rows-commute g [] t settled = refl
rows-commute g (k ∷ rows) t settled = ap (rows_tallied rows) (commutes g k t settled) ∙ rows-commute g rows (row_tallied k t) (stays-settled k g.outcome t settled)

-- ---- two rows of one outcome are one row

with_more-more : (g k row : KeptOutcome) → with_more (with_more g k) row ≡ with_more g (with_more k row)
with_more-more g k row =
    let counts : row.count + (k.count + g.count) ≡ (row.count + k.count) + g.count = omega arith in
    let lowest : min (min g.lowest k.lowest) row.lowest ≡ min g.lowest (min k.lowest row.lowest) = grind arith in
    rw (counts, lowest) refl

module _ (g k : KeptOutcome) (same : k.outcome ≡ g.outcome) where
  more_in-more : (rows : List KeptOutcome) → more_in (with_more g k) rows ≡ more_in g (more_in k rows)
  more_in-more [] = refl
  more_in-more (row ∷ rows) =
      by_cases
      (same_outcome row.outcome k.outcome)
      (more_in (with_more g k) (row ∷ rows) ≡ more_in g (more_in k (row ∷ rows)))
      (λ is.
      let also : same_outcome row.outcome g.outcome ≡ true = subst (λ o. same_outcome row.outcome o ≡ true) same is in
      rw (is, also) (ap (λ first. first ∷ rows) (with_more-more g k row)))
      (λ is.
      let also : same_outcome row.outcome g.outcome ≡ false = subst (λ o. same_outcome row.outcome o ≡ false) same is in
      rw (is, also) (ap (λ rest. row ∷ rest) (more_in-more rows)))

  mine : (b : Bool) (rows : List KeptOutcome) → is_kept k.outcome rows ≡ b → is_kept g.outcome rows ≡ b
  mine b rows is = subst (λ o. is_kept o rows ≡ b) same is

  one-by : (kept room : Bool) (t : Tallied) → is_kept k.outcome t.rows ≡ kept → has_room t.rows ≡ room → row_tallied_by kept room (with_more g k) t ≡ row_tallied g (row_tallied_by kept room k t)
  one-by true room t is has =
      of_parts (more_in (with_more g k) t.rows) (more_in g (more_in k t.rows)) t.rest t.rest (t.added + (k.count + g.count)) ((t.added + k.count) + g.count) (more_in-more t.rows) refl (omega arith)
      ∙ sym (tallied-kept g (record { rows = more_in k t.rows; rest = t.rest; added = t.added + k.count }) (kept-more k g.outcome t.rows ∙ mine true t.rows is))
  one-by false true t is has =
      of_parts (t.rows ++ with_more g k ∷ []) (more_in g (t.rows ++ k ∷ [])) t.rest t.rest (t.added + (k.count + g.count)) ((t.added + k.count) + g.count)
      (sym (more-last g t.rows k (mine false t.rows is) (subst (λ o. same_outcome k.outcome o ≡ true) same (outcome-own k.outcome)))) refl (omega arith)
      ∙ sym (tallied-kept g (record { rows = t.rows ++ k ∷ []; rest = t.rest; added = t.added + k.count }) (mine true (t.rows ++ k ∷ []) (last-kept k t.rows)))
  one-by false false t is has =
      of_parts t.rows t.rows (t.rest + (k.count + g.count)) ((t.rest + k.count) + g.count) (t.added + (k.count + g.count)) ((t.added + k.count) + g.count) refl (omega arith) (omega arith)
      ∙ sym (tallied-full g (record { rows = t.rows; rest = t.rest + k.count; added = t.added + k.count }) (mine false t.rows is) has)

  one-row : (t : Tallied) → row_tallied (with_more g k) t ≡ row_tallied g (row_tallied k t)
  one-row t = one-by (is_kept k.outcome t.rows) (has_room t.rows) t refl refl

-- ---- one row more of a tally

rows-more : (g : KeptOutcome) (rows : List KeptOutcome) (t : Tallied) → is_kept g.outcome rows ≡ true → rows_tallied (more_in g rows) t ≡ row_tallied g (rows_tallied rows t)
rows-more g [] t kept = absurd (cc)
rows-more g (k ∷ rows) t kept =
    by_cases
    (same_outcome k.outcome g.outcome)
    (rows_tallied (more_in g (k ∷ rows)) t ≡ row_tallied g (rows_tallied (k ∷ rows) t))
    (λ is.
    let same = outcome-same k.outcome g.outcome is in
    rw is (ap (rows_tallied rows) (one-row g k same t) ∙ rows-commute g rows (row_tallied k t) (subst (λ o. IsSettled o (row_tallied k t)) same (own-settled k t))))
    (λ is. rw is (rows-more g rows (row_tallied k t) (rw is at kept)))

rows-push : (g : KeptOutcome) (rows : List KeptOutcome) (t : Tallied) → rows_tallied (rows ++ g ∷ []) t ≡ row_tallied g (rows_tallied rows t)
rows-push g [] t = refl
rows-push g (k ∷ rows) t = rows-push g rows (row_tallied k t)

row-more-by : (kept room : Bool) (g : KeptOutcome) (f t : Tallied) → is_kept g.outcome f.rows ≡ kept → 0 < g.count → (row_tallied_by kept room g f).rest ≡ 0 → rows_tallied (row_tallied_by kept room g f).rows t ≡ row_tallied g (rows_tallied f.rows t)
row-more-by true room g f t is some none = rows-more g f.rows t is
row-more-by false true g f t is some none = rows-push g f.rows t
row-more-by false false g f t is some none = absurd (omega (arith, some, none))

row-more : (g : KeptOutcome) (f t : Tallied) → 0 < g.count → (row_tallied g f).rest ≡ 0 → rows_tallied (row_tallied g f).rows t ≡ row_tallied g (rows_tallied f.rows t)
row-more g f t some none = row-more-by (is_kept g.outcome f.rows) (has_room f.rows) g f t refl some none

-- one number more in a tally is one number more in what its rows are added to
pub rows_one_more : (number : ℕ) (o : List OutcomeRow) (f t : Tallied) → (tallied number o f).rest ≡ 0 → rows_tallied (tallied number o f).rows t ≡ tallied number o (rows_tallied f.rows t)
rows_one_more number o f t none =
    let row = fresh_row number o in
    ap (λ (x : Tallied). rows_tallied x.rows t) (tallied-row number o f)
    ∙ row-more row f t (omega arith) (sym (ap (λ (x : Tallied). x.rest) (tallied-row number o f)) ∙ none)
    ∙ sym (tallied-row number o (rows_tallied f.rows t))

-- what is not kept stays counted
rest-by : (kept room : Bool) (number : ℕ) (o : List OutcomeRow) (t : Tallied) → t.rest ≤ (tallied_by kept room number o t).rest
rest-by true room number o t = omega arith
rest-by false true number o t = omega arith
rest-by false false number o t = omega arith

pub rest-grows : (number : ℕ) (o : List OutcomeRow) (t : Tallied) → t.rest ≤ (tallied number o t).rest
rest-grows number o t = rest-by (is_kept o t.rows) (has_room t.rows) number o t

-- ---- few numbers are all kept

-- there is one number at least for each row, and none that is not kept while there is room
record IsFilled (t : Tallied) : Type 0 where
  pub some : length t.rows + t.rest ≤ t.added
  pub room : (t.rest ≡ 0) ⊎ (KEPT_OUTCOMES ≤ length t.rows)

filled-by : (kept room : Bool) (number : ℕ) (o : List OutcomeRow) (t : Tallied) → has_room t.rows ≡ room → IsFilled t → IsFilled (tallied_by kept room number o t)
filled-by true room number o t has filled =
    let same : length (noted_in number o t.rows) ≡ length t.rows = ap length (noted_in-more number o t.rows) ∙ length-more (fresh_row number o) t.rows in
    record { some = omega (arith, same, filled.some); room = kept_room same filled.room }
  where
    kept_room : length (noted_in number o t.rows) ≡ length t.rows → (t.rest ≡ 0) ⊎ (KEPT_OUTCOMES ≤ length t.rows) → (t.rest ≡ 0) ⊎ (KEPT_OUTCOMES ≤ length (noted_in number o t.rows))
    kept_room same (inl none) = inl none
    kept_room same (inr full) = inr (omega (arith, same, full))
filled-by false true number o t has filled =
    let more = length-push t.rows (fresh_row number o) in
    record { some = omega (arith, more, filled.some); room = kept_room more filled.room }
  where
    kept_room : length (t.rows ++ fresh_row number o ∷ []) ≡ length t.rows + 1 → (t.rest ≡ 0) ⊎ (KEPT_OUTCOMES ≤ length t.rows) → (t.rest ≡ 0) ⊎ (KEPT_OUTCOMES ≤ length (t.rows ++ fresh_row number o ∷ []))
    kept_room more (inl none) = inl none
    kept_room more (inr full) = inr (omega (arith, more, full))
filled-by false false number o t has filled = record { some = omega (arith, filled.some); room = inr (grind (arith, nat_tests, has)) }

filled-more : (number : ℕ) (o : List OutcomeRow) (t : Tallied) → IsFilled t → IsFilled (tallied number o t)
filled-more number o t filled = filled-by (is_kept o t.rows) (has_room t.rows) number o t refl filled

all-kept : (t : Tallied) → IsFilled t → t.added ≤ KEPT_OUTCOMES → t.rest ≡ 0
all-kept t filled few = by_room filled.room
  where
    by_room : (t.rest ≡ 0) ⊎ (KEPT_OUTCOMES ≤ length t.rows) → t.rest ≡ 0
    by_room (inl none) = none
    by_room (inr full) = omega (arith, full, few, filled.some)

filled-all : (given : List Gave) → IsFilled (tally_of given)
filled-all [] = record { some = omega arith; room = inl refl }
filled-all (g ∷ past) = subst IsFilled (sym (tally_of_more g past)) (filled-more g.number g.outcome (tally_of past) (filled-all past))

pub few_are_kept : (given : List Gave) → length given ≤ KEPT_OUTCOMES → (tally_of given).rest ≡ 0
few_are_kept given few = all-kept (tally_of given) (filled-all given) few
