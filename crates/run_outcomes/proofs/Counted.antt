-- A tally of all that was added, with one number more.
use Rattle.std.proofs.Common.{◌≡◌, ℕ, zero, suc, ◌+◌, ◌<◌, ◌≤◌, Bool, true, false, not, cond, ◌||◌, List, [], ◌∷◌, ◌++◌, map, length, take, nat_lt, min, refl, arith, sym, ap, subst, ◌∙◌, length-append, add-one}
use Rattle.std.specs.List.{list_any}
use Rattle.std.proofs.lemmas.Bool.Decides.{nat_tests}
use Rattle.std.proofs.lemmas.List.{take-append-le, length-take, map-append}
use Rattle.uid_names.proofs.ListLemmas.{by_cases, count_by-cons_passes, count_by-cons_fails}
use Rattle.run_outcomes.specs.declared.outcome.OutcomeRow.{OutcomeRow}
use Rattle.run_outcomes.specs.declared.tally.KeptOutcome.{KeptOutcome}
use Rattle.run_outcomes.specs.declared.tally.TheConstants.{KEPT_OUTCOMES}
use Rattle.run_outcomes.specs.Outcomes.{same_outcome}
use Rattle.run_outcomes.specs.Tallies.{Tallied, fresh_row, noted, noted_in, is_kept, tallied, tallied_by}
use Rattle.run_outcomes.specs.Counts.{Gave, is_among, with_met, met, numbers_of, least, row_of, count_beside, tally_of}
use Rattle.run_outcomes.proofs.Same.{outcome-same, outcome-own}

module _ {X : Type 0} (p : X → Bool) where
  any-append : (xs ys : List X) → list_any p (xs ++ ys) ≡ (list_any p xs || list_any p ys)
  any-append [] ys = refl
  any-append (x ∷ xs) ys = by_cases (p x) (list_any p (x ∷ xs ++ ys) ≡ (list_any p (x ∷ xs) || list_any p ys)) (λ is. rw is refl) (λ is. rw is (any-append xs ys))

  -- none of the first passes where none does
  any-take : (n : ℕ) (xs : List X) → list_any p xs ≡ false → list_any p (take n xs) ≡ false
  any-take zero xs none = refl
  any-take (suc n) [] none = refl
  any-take (suc n) (x ∷ xs) none =
      by_cases
      (p x)
      (list_any p (x ∷ take n xs) ≡ false)
      (λ is. absurd (let h : true ≡ false = rw is at none in cc))
      (λ is. rw is (any-take n xs (rw is at none)))

  -- one passes where one of the first does
  any-taken : (n : ℕ) (xs : List X) → list_any p (take n xs) ≡ true → list_any p xs ≡ true
  any-taken n xs some = by_cases (list_any p xs) (list_any p xs ≡ true) (λ is. is) (λ is. absurd (let h = any-take n xs is in cc))

any-map : {X Y : Type 0} (p : Y → Bool) (f : X → Y) (xs : List X) → list_any p (map f xs) ≡ list_any (λ x. p (f x)) xs
any-map p f [] = refl
any-map p f (x ∷ xs) = ap (λ b. p (f x) || b) (any-map p f xs)

-- two that are not the same are not the same the other way round
same-sym : (a b : List OutcomeRow) → same_outcome a b ≡ false → same_outcome b a ≡ false
same-sym a b differ =
    by_cases
    (same_outcome b a)
    (same_outcome b a ≡ false)
    (λ is. absurd (let e = outcome-same b a is in let h : same_outcome a a ≡ false = rw e at differ in let own = outcome-own a in cc))
    (λ is. is)

-- each stands there once
abbrev Once : List (List OutcomeRow) → Type 0
Once [] = Unit {0}
Once (s ∷ ss) = (is_among s ss ≡ false) × Once ss

first-differs : (s o : List OutcomeRow) (ss : List (List OutcomeRow)) → is_among o (s ∷ ss) ≡ false → (same_outcome s o ≡ false) × (is_among o ss ≡ false)
first-differs s o ss none =
    by_cases
    (same_outcome s o)
    ((same_outcome s o ≡ false) × (is_among o ss ≡ false))
    (λ is. absurd (let h : true ≡ false = rw is at none in cc))
    (λ is. (is, rw is at none))

once-push : (o : List OutcomeRow) (ss : List (List OutcomeRow)) → Once ss → is_among o ss ≡ false → Once (ss ++ o ∷ [])
once-push o [] once none = (refl, tt)
once-push o (s ∷ ss) once none =
    let apart = first-differs s o ss none in
    let back = same-sym s o apart.0 in
    (any-append (λ t. same_outcome t s) ss (o ∷ []) ∙ rw (once.0, back) refl, once-push o ss once.1 apart.1)

once-take : (n : ℕ) (ss : List (List OutcomeRow)) → Once ss → Once (take n ss)
once-take zero ss once = tt
once-take (suc n) [] once = tt
once-take (suc n) (s ∷ ss) once = (any-take (λ t. same_outcome t s) n ss once.0, once-take n ss once.1)

once-with : (b : Bool) (o : List OutcomeRow) (ss : List (List OutcomeRow)) → is_among o ss ≡ b → Once ss → Once (with_met b o ss)
once-with true o ss is once = once
once-with false o ss is once = once-push o ss once is

met-once : (past : List Gave) → Once (met past)
met-once [] = tt
met-once (g ∷ past) = once-with (is_among g.outcome (met past)) g.outcome (met past) refl (met-once past)

-- the numbers of an outcome, with one more that gave it, and with one that gave another
numbers-same : (s : List OutcomeRow) (g : Gave) (past : List Gave) → same_outcome s g.outcome ≡ true → numbers_of s (g ∷ past) ≡ g.number ∷ numbers_of s past
numbers-same s g past is = rw is refl

numbers-other : (s : List OutcomeRow) (g : Gave) (past : List Gave) → same_outcome s g.outcome ≡ false → numbers_of s (g ∷ past) ≡ numbers_of s past
numbers-other s g past is = rw is refl

-- each has a number that gave it
abbrev HaveNumbers : List Gave → List (List OutcomeRow) → Type 0
HaveNumbers past [] = Unit {0}
HaveNumbers past (s ∷ ss) = (0 < length (numbers_of s past)) × HaveNumbers past ss

have-more : (g : Gave) (past : List Gave) (ss : List (List OutcomeRow)) → HaveNumbers past ss → HaveNumbers (g ∷ past) ss
have-more g past [] have = tt
have-more g past (s ∷ ss) have =
    (by_cases (same_outcome s g.outcome) (0 < length (numbers_of s (g ∷ past))) (λ is. rw is (omega arith)) (λ is. rw is have.0), have-more g past ss have.1)

have-push : (past : List Gave) (o : List OutcomeRow) (ss : List (List OutcomeRow)) → HaveNumbers past ss → 0 < length (numbers_of o past) → HaveNumbers past (ss ++ o ∷ [])
have-push past o [] have last = (last, tt)
have-push past o (s ∷ ss) have last = (have.0, have-push past o ss have.1 last)

have-take : (n : ℕ) (past : List Gave) (ss : List (List OutcomeRow)) → HaveNumbers past ss → HaveNumbers past (take n ss)
have-take zero past ss have = tt
have-take (suc n) past [] have = tt
have-take (suc n) past (s ∷ ss) have = (have.0, have-take n past ss have.1)

have-with : (b : Bool) (g : Gave) (past : List Gave) (ss : List (List OutcomeRow)) → HaveNumbers past ss → HaveNumbers (g ∷ past) (with_met b g.outcome ss)
have-with true g past ss have = have-more g past ss have
have-with false g past ss have = have-push (g ∷ past) g.outcome ss (have-more g past ss have) (rw (outcome-own g.outcome) (omega arith))

met-have : (past : List Gave) → HaveNumbers past (met past)
met-have [] = tt
met-have (g ∷ past) = have-with (is_among g.outcome (met past)) g past (met past) (met-have past)

-- each outcome that was given is among these
abbrev AreIn : List (List OutcomeRow) → List Gave → Type 0
AreIn seen [] = Unit {0}
AreIn seen (x ∷ xs) = (is_among x.outcome seen ≡ true) × AreIn seen xs

in-push : (o : List OutcomeRow) (seen : List (List OutcomeRow)) (xs : List Gave) → AreIn seen xs → AreIn (seen ++ o ∷ []) xs
in-push o seen [] are = tt
in-push o seen (x ∷ xs) are = (any-append (λ s. same_outcome s x.outcome) seen (o ∷ []) ∙ rw are.0 refl, in-push o seen xs are.1)

last-in : (o : List OutcomeRow) (seen : List (List OutcomeRow)) → is_among o (seen ++ o ∷ []) ≡ true
last-in o seen = any-append (λ s. same_outcome s o) seen (o ∷ []) ∙ by_cases (is_among o seen) ((is_among o seen || is_among o (o ∷ [])) ≡ true) (λ is. rw is refl) (λ is. rw (is, outcome-own o) refl)

in-with : (b : Bool) (g : Gave) (past : List Gave) (seen : List (List OutcomeRow)) → is_among g.outcome seen ≡ b → AreIn seen past → AreIn (with_met b g.outcome seen) (g ∷ past)
in-with true g past seen is are = (is, are)
in-with false g past seen is are = (last-in g.outcome seen, in-push g.outcome seen past are)

met-in : (past : List Gave) → AreIn (met past) past
met-in [] = tt
met-in (g ∷ past) = in-with (is_among g.outcome (met past)) g past (met past) refl (met-in past)

beside-none : (seen : List (List OutcomeRow)) (xs : List Gave) → AreIn seen xs → count_beside seen xs ≡ 0
beside-none seen [] are = refl
beside-none seen (x ∷ xs) are = count_by-cons_fails (λ g. not (is_among g.outcome seen)) x xs (ap not are.0) ∙ beside-none seen xs are.1

numbers-none : (o : List OutcomeRow) (seen : List (List OutcomeRow)) (xs : List Gave) → AreIn seen xs → is_among o seen ≡ false → numbers_of o xs ≡ []
numbers-none o seen [] are none = refl
numbers-none o seen (x ∷ xs) are none =
    by_cases
    (same_outcome o x.outcome)
    (numbers_of o (x ∷ xs) ≡ [])
    (λ is. absurd (let e = outcome-same o x.outcome is in let h : is_among x.outcome seen ≡ false = subst (λ z. is_among z seen ≡ false) e none in let there = are.0 in cc))
    (λ is. rw is (numbers-none o seen xs are.1 none))

least-more : (n : ℕ) (ns : List ℕ) → 0 < length ns → least (n ∷ ns) ≡ min n (least ns)
least-more n [] some = absurd (omega (arith, some))
least-more n (m ∷ ns) some = refl

-- the row of an outcome that one more gave, and of another
row-same : (s : List OutcomeRow) (g : Gave) (past : List Gave) → same_outcome s g.outcome ≡ true → 0 < length (numbers_of s past) → row_of (g ∷ past) s ≡ noted g.number (row_of past s)
row-same s g past is some =
    ap (λ ns. record { outcome = s; count = length ns; lowest = least ns }) (numbers-same s g past is)
    ∙ (ap (λ c. record { outcome = s; count = c; lowest = least (g.number ∷ numbers_of s past) }) (sym (add-one (length (numbers_of s past))))
    ∙ ap (λ l. record { outcome = s; count = length (numbers_of s past) + 1; lowest = l }) (least-more g.number (numbers_of s past) some))

row-other : (s : List OutcomeRow) (g : Gave) (past : List Gave) → same_outcome s g.outcome ≡ false → row_of (g ∷ past) s ≡ row_of past s
row-other s g past is = ap (λ ns. record { outcome = s; count = length ns; lowest = least ns }) (numbers-other s g past is)

rows-other : (g : Gave) (past : List Gave) (ss : List (List OutcomeRow)) → is_among g.outcome ss ≡ false → map (row_of (g ∷ past)) ss ≡ map (row_of past) ss
rows-other g past [] none = refl
rows-other g past (s ∷ ss) none =
    let apart = first-differs s g.outcome ss none in
    ap (λ r. r ∷ map (row_of (g ∷ past)) ss) (row-other s g past apart.0) ∙ ap (λ rs. row_of past s ∷ rs) (rows-other g past ss apart.1)

rows-noted : (g : Gave) (past : List Gave) (ss : List (List OutcomeRow)) → Once ss → HaveNumbers past ss → map (row_of (g ∷ past)) ss ≡ noted_in g.number g.outcome (map (row_of past) ss)
rows-noted g past [] once have = refl
rows-noted g past (s ∷ ss) once have =
    by_cases
    (same_outcome s g.outcome)
    (map (row_of (g ∷ past)) (s ∷ ss) ≡ noted_in g.number g.outcome (map (row_of past) (s ∷ ss)))
    (λ is.
    let e = outcome-same s g.outcome is in
    let rest : is_among g.outcome ss ≡ false = subst (λ z. is_among z ss ≡ false) e once.0 in
    ap (λ r. r ∷ map (row_of (g ∷ past)) ss) (row-same s g past is have.0) ∙ (ap (λ rs. noted g.number (row_of past s) ∷ rs) (rows-other g past ss rest)
    ∙ sym (ap (λ b. cond b (noted g.number (row_of past s) ∷ map (row_of past) ss) (row_of past s ∷ noted_in g.number g.outcome (map (row_of past) ss))) is)))
    (λ is.
    ap (λ r. r ∷ map (row_of (g ∷ past)) ss) (row-other s g past is) ∙ (ap (λ rs. row_of past s ∷ rs) (rows-noted g past ss once.1 have.1)
    ∙ sym (ap (λ b. cond b (noted g.number (row_of past s) ∷ map (row_of past) ss) (row_of past s ∷ noted_in g.number g.outcome (map (row_of past) ss))) is)))

kept-among : (o : List OutcomeRow) (past : List Gave) (ss : List (List OutcomeRow)) → is_kept o (map (row_of past) ss) ≡ is_among o ss
kept-among o past ss = any-map (λ r. same_outcome r.outcome o) (row_of past) ss

tally-same : (rows also : List KeptOutcome) (rest more added sum : ℕ) → rows ≡ also → rest ≡ more → added ≡ sum → ◌≡◌ {A = Tallied} (record { rows = rows; rest = rest; added = added }) (record { rows = also; rest = more; added = sum })
tally-same rows also rest more added sum e f g = rw (e, f, g) refl

take-short : {X : Type 0} (n : ℕ) (xs : List X) → length xs ≤ n → take n xs ≡ xs
take-short zero [] short = refl
take-short (suc n) [] short = refl
take-short zero (x ∷ xs) short = absurd (omega (arith, short))
take-short (suc n) (x ∷ xs) short = ap (λ ys. x ∷ ys) (take-short n xs (omega (arith, short)))

length-map : {X Y : Type 0} (f : X → Y) (xs : List X) → length (map f xs) ≡ length xs
length-map f [] = refl
length-map f (x ∷ xs) = ap suc (length-map f xs)

-- what a tally is of, with room for so many outcomes
abbrev tally_in : ℕ → List Gave → List (List OutcomeRow) → Tallied
tally_in room given seen = record { rows = map (row_of given) (take room seen); rest = count_beside (take room seen) given; added = length given }

abbrev tallied_in : ℕ → Gave → Tallied → Tallied
tallied_in room g t = tallied_by (is_kept g.outcome t.rows) (nat_lt (length t.rows) room) g.number g.outcome t

module _ (room : ℕ) (g : Gave) (past : List Gave) where
  -- its outcome is kept
  more-kept : is_among g.outcome (take room (met past)) ≡ true → tally_in room (g ∷ past) (met (g ∷ past)) ≡ tallied_in room g (tally_in room past (met past))
  more-kept is =
      let seen : is_among g.outcome (met past) ≡ true = any-taken (λ s. same_outcome s g.outcome) room (met past) is in
      let stays : met (g ∷ past) ≡ met past = ap (λ b. with_met b g.outcome (met past)) seen in
      let there : is_kept g.outcome (map (row_of past) (take room (met past))) ≡ true = kept-among g.outcome past (take room (met past)) ∙ is in
      ap (tally_in room (g ∷ past)) stays
      ∙ (tally-same _ _ _ _ _ _
      (rows-noted g past (take room (met past)) (once-take room (met past) (met-once past)) (have-take room past (met past) (met-have past)))
      (count_by-cons_fails (λ x. not (is_among x.outcome (take room (met past)))) g past (ap not is))
      (sym (add-one (length past)))
      ∙ sym (ap (λ b. tallied_by b (nat_lt (length (map (row_of past) (take room (met past)))) room) g.number g.outcome (tally_in room past (met past))) there))

  -- it is not, and there is room for it
  more-room : is_among g.outcome (take room (met past)) ≡ false → length (take room (met past)) < room → tally_in room (g ∷ past) (met (g ∷ past)) ≡ tallied_in room g (tally_in room past (met past))
  more-room is low =
      let short : length (met past) < room = omega (arith, low, length-take room (met past)) in
      let all : take room (met past) ≡ met past = take-short room (met past) (omega (arith, short)) in
      let new : is_among g.outcome (met past) ≡ false = subst (λ z. is_among g.outcome z ≡ false) all is in
      let grows : met (g ∷ past) ≡ met past ++ g.outcome ∷ [] = ap (λ b. with_met b g.outcome (met past)) new in
      let long : length (met past ++ g.outcome ∷ []) ≤ room = omega (arith, short, length-append (met past) (g.outcome ∷ [])) in
      let each : take room (met (g ∷ past)) ≡ met past ++ g.outcome ∷ [] = ap (take room) grows ∙ take-short room (met past ++ g.outcome ∷ []) long in
      let none : is_kept g.outcome (map (row_of past) (take room (met past))) ≡ false = kept-among g.outcome past (take room (met past)) ∙ is in
      let fits : nat_lt (length (map (row_of past) (take room (met past)))) room ≡ true = rw (length-map (row_of past) (take room (met past))) (grind (arith, nat_tests)) in
      let fresh : row_of (g ∷ past) g.outcome ≡ fresh_row g.number g.outcome =
      ap (λ ns. record { outcome = g.outcome; count = length ns; lowest = least ns }) (numbers-same g.outcome g past (outcome-own g.outcome) ∙ ap (λ ns. g.number ∷ ns) (numbers-none g.outcome (met past) past (met-in past) new)) in
      tally-same _ _ _ _ _ _
      (ap (map (row_of (g ∷ past))) each
      ∙ (map-append (row_of (g ∷ past)) (met past) (g.outcome ∷ [])
      ∙ (ap (λ rs. rs ++ row_of (g ∷ past) g.outcome ∷ []) (rows-other g past (met past) new)
      ∙ (ap (λ r. map (row_of past) (met past) ++ r ∷ []) fresh
      ∙ ap (λ z. map (row_of past) z ++ fresh_row g.number g.outcome ∷ []) (sym all)))))
      (ap (λ z. count_beside z (g ∷ past)) each
      ∙ (beside-none (met past ++ g.outcome ∷ []) (g ∷ past) (last-in g.outcome (met past), in-push g.outcome (met past) past (met-in past))
      ∙ (sym (beside-none (met past) past (met-in past)) ∙ ap (λ z. count_beside z past) (sym all))))
      (sym (add-one (length past)))
      ∙ sym
      (ap (λ b. tallied_by b (nat_lt (length (map (row_of past) (take room (met past)))) room) g.number g.outcome (tally_in room past (met past))) none
      ∙ ap (λ b. tallied_by false b g.number g.outcome (tally_in room past (met past))) fits)

  -- it is not, and there is no room
  more-full : is_among g.outcome (take room (met past)) ≡ false → room ≤ length (take room (met past)) → tally_in room (g ∷ past) (met (g ∷ past)) ≡ tallied_in room g (tally_in room past (met past))
  more-full is high =
      let long : room ≤ length (met past) = omega (arith, high, length-take room (met past)) in
      let each : take room (met (g ∷ past)) ≡ take room (met past) =
      by_cases (is_among g.outcome (met past)) (take room (met (g ∷ past)) ≡ take room (met past))
      (λ seen. ap (λ b. take room (with_met b g.outcome (met past))) seen)
      (λ new. ap (λ b. take room (with_met b g.outcome (met past))) new ∙ take-append-le room (met past) (g.outcome ∷ []) long) in
      let none : is_kept g.outcome (map (row_of past) (take room (met past))) ≡ false = kept-among g.outcome past (take room (met past)) ∙ is in
      let full : nat_lt (length (map (row_of past) (take room (met past)))) room ≡ false = rw (length-map (row_of past) (take room (met past))) (grind (arith, nat_tests)) in
      tally-same _ _ _ _ _ _
      (ap (map (row_of (g ∷ past))) each ∙ rows-other g past (take room (met past)) is)
      (ap (λ z. count_beside z (g ∷ past)) each
      ∙ (count_by-cons_passes (λ x. not (is_among x.outcome (take room (met past)))) g past (ap not is) ∙ sym (add-one (count_beside (take room (met past)) past))))
      (sym (add-one (length past)))
      ∙ sym
      (ap (λ b. tallied_by b (nat_lt (length (map (row_of past) (take room (met past)))) room) g.number g.outcome (tally_in room past (met past))) none
      ∙ ap (λ b. tallied_by false b g.number g.outcome (tally_in room past (met past))) full)

  more-in : tally_in room (g ∷ past) (met (g ∷ past)) ≡ tallied_in room g (tally_in room past (met past))
  more-in =
      by_cases
      (is_among g.outcome (take room (met past)))
      (tally_in room (g ∷ past) (met (g ∷ past)) ≡ tallied_in room g (tally_in room past (met past)))
      more-kept
      (λ is.
      by_cases
      (nat_lt (length (take room (met past))) room)
      (tally_in room (g ∷ past) (met (g ∷ past)) ≡ tallied_in room g (tally_in room past (met past)))
      (λ lt. more-room is (grind (arith, nat_tests)))
      (λ ge. more-full is (grind (arith, nat_tests))))

pub tally_of_more : (g : Gave) (past : List Gave) → tally_of (g ∷ past) ≡ tallied g.number g.outcome (tally_of past)
tally_of_more g past = more-in KEPT_OUTCOMES g past
