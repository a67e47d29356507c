-- The first that passes a test, what passes one, and numbers in order.
use Rattle.std.proofs.Common.{◌≡◌, ◌∙◌, ℕ, zero, suc, ◌+◌, ◌-◌, ◌<◌, ◌≤◌, Bool, true, false, List, [], ◌∷◌, drop, length, get_or, refl, ap, sym, drop-cons, inl, inr, arith}
use Rattle.std.specs.Prelude.{All, ◌&&◌, not, find, filter, Some, None, is_some, if◌then◌else◌}
use Rattle.std.specs.List.{list_any, range_with_len}
use Rattle.std.proofs.lemmas.Bool.{cases_lt}
use Rattle.std.proofs.lemmas.Option.{same_Some}
use Rattle.std.proofs.lemmas.List.Elements.{All-nil, All-cons, All-head, All-tail}

-- a filter that all pass keeps all
pub filter-all : {X : Type 0} (p : X → Bool) (xs : List X) → All (λ x. p x ≡ true) xs → filter p xs ≡ xs
filter-all p [] passes = refl
filter-all p (x ∷ xs) passes =
    rw (All-head (λ y. p y ≡ true) x xs passes) (ap (λ ys. x ∷ ys) (filter-all p xs (All-tail (λ y. p y ≡ true) x xs passes)))

-- a filter that none passes keeps none
pub filter-none : {X : Type 0} (p : X → Bool) (xs : List X) → All (λ x. p x ≡ false) xs → filter p xs ≡ []
filter-none p [] fails = refl
filter-none p (x ∷ xs) fails = rw (All-head (λ y. p y ≡ false) x xs fails) (filter-none p xs (All-tail (λ y. p y ≡ false) x xs fails))

-- where none passes, none is found
pub find-none : {X : Type 0} (p : X → Bool) (xs : List X) → All (λ x. p x ≡ false) xs → find p xs ≡ None
find-none p [] fails = refl
find-none p (x ∷ xs) fails = rw (All-head (λ y. p y ≡ false) x xs fails) (find-none p xs (All-tail (λ y. p y ≡ false) x xs fails))

-- where one passes, one is found
pub find-some : {X : Type 0} (p : X → Bool) (xs : List X) (k : ℕ) (d : X) → k < length xs → p (get_or xs k d) ≡ true → is_some (find p xs) ≡ true
find-some p [] k d below passes = absurd (omega (arith, below))
find-some p (x ∷ xs) zero d below passes = rw passes refl
find-some p (x ∷ xs) (suc k) d below passes = by_test (p x) refl (find-some p xs k d (omega (arith, below)) passes)
  where
    by_test : (b : Bool) → p x ≡ b → is_some (find p xs) ≡ true → is_some (find p (x ∷ xs)) ≡ true
    by_test true e others = rw e refl
    by_test false e others = rw e others

-- what is found by two tests is found by the second among what passes the first
pub find-and : {X : Type 0} (p q : X → Bool) (xs : List X) → find (λ x. p x && q x) xs ≡ find q (filter p xs)
find-and p q [] = refl
find-and p q (x ∷ xs) = by_test (p x) refl (find-and p q xs)
  where
    by_test : (b : Bool) → p x ≡ b → find (λ y. p y && q y) xs ≡ find q (filter p xs) → find (λ y. p y && q y) (x ∷ xs) ≡ find q (filter p (x ∷ xs))
    by_test true e others = rw (e, others) refl
    by_test false e others = rw (e, others) refl

-- and the same of whether some element passes
pub list_any-and : {X : Type 0} (p q : X → Bool) (xs : List X) → list_any (λ x. p x && q x) xs ≡ list_any q (filter p xs)
list_any-and p q [] = refl
list_any-and p q (x ∷ xs) = by_test (p x) refl (list_any-and p q xs)
  where
    by_test : (b : Bool) → p x ≡ b → list_any (λ y. p y && q y) xs ≡ list_any q (filter p xs) → list_any (λ y. p y && q y) (x ∷ xs) ≡ list_any q (filter p (x ∷ xs))
    by_test true e others = rw (e, others) refl
    by_test false e others = rw (e, others) refl

-- what passes two filters passes both tests
pub filter-filter : {X : Type 0} (p q r : X → Bool) (xs : List X) → ((x : X) → (q x && p x) ≡ r x) → filter p (filter q xs) ≡ filter r xs
filter-filter p q r [] both = refl
filter-filter p q r (x ∷ xs) both = by_test (q x) refl (filter-filter p q r xs both)
  where
    by_test : (b : Bool) → q x ≡ b → filter p (filter q xs) ≡ filter r xs → filter p (filter q (x ∷ xs)) ≡ filter r (x ∷ xs)
    by_test true e others = let here = rw e at (both x) in rw (e, here, others) refl
    by_test false e others = let here = rw e at (both x) in rw (e, ← here) others

-- tests that say the same keep the same
pub filter-alike : {X : Type 0} (p q : X → Bool) (xs : List X) → ((x : X) → p x ≡ q x) → filter p xs ≡ filter q xs
filter-alike p q [] alike = refl
filter-alike p q (x ∷ xs) alike = rw (alike x, filter-alike p q xs alike) refl

-- not not
pub not-not : (b : Bool) → not (not b) ≡ b
not-not true = refl
not-not false = refl

-- the first of those from i on is the first, where none before passes
pub found_at : {X : Type 0} (test : X → Bool) (xs : List X) (i : ℕ) (x : X) → find test (drop i xs) ≡ find test xs → i < length xs → x ≡ get_or xs i x → test x ≡ true → find test xs ≡ Some x
found_at test xs i x before below read passes = sym before ∙ rw (drop-cons xs i x below, ← read, passes) refl

-- what is found passes
pub find-passes : {X : Type 0} (test : X → Bool) (xs : List X) (x : X) → find test xs ≡ Some x → test x ≡ true
find-passes test [] x found = absurd cc
find-passes test (y ∷ ys) x found = by_test (test y) refl found (find-passes test ys x)
  where
    by_test : (b : Bool) → test y ≡ b → find test (y ∷ ys) ≡ Some x → (find test ys ≡ Some x → test x ≡ true) → test x ≡ true
    by_test true e found others = let same = same_Some y x (rw e at found) in rw (← same) e
    by_test false e found others = others (rw e at found)

-- where nothing is found, all fail
pub find-all_fail : {X : Type 0} (test : X → Bool) (xs : List X) → find test xs ≡ None → All (λ x. test x ≡ false) xs
find-all_fail test [] none = All-nil (λ x. test x ≡ false)
find-all_fail test (y ∷ ys) none = by_test (test y) refl none (find-all_fail test ys)
  where
    by_test : (b : Bool) → test y ≡ b → find test (y ∷ ys) ≡ None → (find test ys ≡ None → All (λ x. test x ≡ false) ys) → All (λ x. test x ≡ false) (y ∷ ys)
    by_test true e none others = let h = rw e at none in absurd cc
    by_test false e none others = All-cons (λ x. test x ≡ false) y ys e (others (rw e at none))

-- the first number from a on that passes is a, or the first from the next one on
pub find-range_step : (test : ℕ → Bool) (a n : ℕ) → a < n → find test (range_with_len a (n - a)) ≡ (if test a then Some a else find test (range_with_len (a + 1) (n - (a + 1))))
find-range_step test a n below =
    let e : n - a ≡ suc (n - (a + 1)) = omega arith in
    rw e refl

-- no lower number passes
pub find-range_lowest : (test : ℕ → Bool) (a n k : ℕ) → find test (range_with_len a n) ≡ Some k → (j : ℕ) → a ≤ j → j < k → test j ≡ false
find-range_lowest test a zero k found j from below = absurd cc
find-range_lowest test a (suc n) k found j from below = by_test (test a) refl found (λ later above. find-range_lowest test (a + 1) n k later j above below)
  where
    by_test : (b : Bool) → test a ≡ b → find test (range_with_len a (suc n)) ≡ Some k → (find test (range_with_len (a + 1) n) ≡ Some k → a + 1 ≤ j → test j ≡ false) → test j ≡ false
    by_test true e found others = let same : a ≡ k = same_Some a k (rw e at found) in absurd (omega (arith, same, from, below))
    by_test false e found others = elim (cases_lt a j) [
      | inl above ↦ others (rw e at found) (omega (arith, above))
      | inr over ↦ (let same : j ≡ a = omega (arith, over, from) in rw same e)
    ]

-- where none is found, each fails
pub find-range_none : (test : ℕ → Bool) (a n : ℕ) → find test (range_with_len a n) ≡ None → (j : ℕ) → a ≤ j → j < a + n → test j ≡ false
find-range_none test a zero none j from below = absurd (omega (arith, from, below))
find-range_none test a (suc n) none j from below = by_test (test a) refl none (λ later above. find-range_none test (a + 1) n later j above (omega (arith, below)))
  where
    by_test : (b : Bool) → test a ≡ b → find test (range_with_len a (suc n)) ≡ None → (find test (range_with_len (a + 1) n) ≡ None → a + 1 ≤ j → test j ≡ false) → test j ≡ false
    by_test true e none others = let h = rw e at none in absurd cc
    by_test false e none others = elim (cases_lt a j) [
      | inl above ↦ others (rw e at none) (omega (arith, above))
      | inr over ↦ (let same : j ≡ a = omega (arith, over, from) in rw same e)
    ]

-- a number that is found is one of them
pub find-range_within : (test : ℕ → Bool) (a n k : ℕ) → find test (range_with_len a n) ≡ Some k → (a ≤ k) × (k < a + n)
find-range_within test a zero k found = absurd cc
find-range_within test a (suc n) k found = by_test (test a) refl found (find-range_within test (a + 1) n k)
  where
    by_test : (b : Bool) → test a ≡ b → find test (range_with_len a (suc n)) ≡ Some k → (find test (range_with_len (a + 1) n) ≡ Some k → (a + 1 ≤ k) × (k < a + 1 + n)) → (a ≤ k) × (k < a + suc n)
    by_test true e found others = let same : a ≡ k = same_Some a k (rw e at found) in (omega (arith, same), omega (arith, same))
    by_test false e found others = let h = others (rw e at found) in (omega (arith, h), omega (arith, h))
