-- The commonest of rows, as a loop finds it.
use Rattle.std.proofs.Common.{◌≡◌, ℕ, ◌+◌, ◌<◌, true, false, List, length, get_or, Some, refl, arith, sym, ◌∙◌}
use Rattle.std.specs.Prelude.{slice_get, nat_lt}
use Rattle.std.proofs.lemmas.Bool.Decides.{nat_tests}
use Rattle.std.proofs.lemmas.Option.{slice_get_read, same_Some}
use Rattle.uid_names.proofs.ListLemmas.{by_cases}
use Rattle.run_outcomes.specs.declared.tally.KeptOutcome.{KeptOutcome}
use Rattle.run_outcomes.specs.Tallies.{is_commoner}

-- none is commoner than itself
commoner-self : (r : KeptOutcome) → is_commoner r r ≡ false
commoner-self r = grind (arith, nat_tests)

-- what is no commoner than one is no commoner than what is
commoner-onward : (r b o : KeptOutcome) → is_commoner r b ≡ true → is_commoner o b ≡ false → is_commoner o r ≡ false
commoner-onward r b o more less = grind (arith, nat_tests)

-- none of the first so many is commoner than the one at a place
abbrev pub IsBest : List KeptOutcome → ℕ → ℕ → Type 0
IsBest rows n best = (k : ℕ) (row other : KeptOutcome) → k < n → slice_get rows best ≡ Some row → slice_get rows k ≡ Some other → is_commoner other row ≡ false

module _ (rows : List KeptOutcome) (i best : ℕ) (r b : KeptOutcome) (low : i < length rows) (within : best < length rows) (here : r ≡ get_or rows i r) (there : b ≡ get_or rows best b) (so_far : IsBest rows i best) where
  at_i : slice_get rows i ≡ Some r
  at_i = slice_get_read rows (length rows) i r refl low here

  at_best : slice_get rows best ≡ Some b
  at_best = slice_get_read rows (length rows) best b refl within there

  -- the next one is the best
  pub best-next : is_commoner r b ≡ true → IsBest rows (i + 1) i
  best-next more k row other below is_row is_other =
      let same : r ≡ row = same_Some r row (sym at_i ∙ is_row) in
      by_cases
      (is_commoner other row)
      (is_commoner other row ≡ false)
      (λ bad. by_cases (nat_lt k i) (is_commoner other row ≡ false)
      (λ lt. rw (← same) (commoner-onward r b other more (so_far k b other (grind (arith, nat_tests)) at_best is_other)))
      (λ ge. let k_is : k ≡ i = grind (arith, nat_tests) in
      let also : r ≡ other = same_Some r other (sym at_i ∙ rw k_is at is_other) in
      rw (← same, ← also) (commoner-self r)))
      (λ is. is)

  -- the best stays
  pub best-stays : is_commoner r b ≡ false → IsBest rows (i + 1) best
  best-stays less k row other below is_row is_other =
      let same : b ≡ row = same_Some b row (sym at_best ∙ is_row) in
      by_cases (nat_lt k i) (is_commoner other row ≡ false)
      (λ lt. so_far k row other (grind (arith, nat_tests)) is_row is_other)
      (λ ge. let k_is : k ≡ i = grind (arith, nat_tests) in
      let also : r ≡ other = same_Some r other (sym at_i ∙ rw k_is at is_other) in
      rw (← same, ← also) less)
