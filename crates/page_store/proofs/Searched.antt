-- A list in the order of its keys, by the place that a search found. The order is any total one.
use Rattle.std.proofs.Common.{◌≡◌, ℕ, zero, suc, ◌<◌, ◌≤◌, List, [], ◌∷◌, length, map, get_or, set, ap, sym, ◌∙◌, refl, arith}
use Rattle.std.specs.Prelude.{Bool, true, false, ◌&&◌, IsTrue, Some, None}
use Rattle.std.specs.Ordering.{ordering_index, is_lt, ordering_reverse}
use Rattle.std.specs.declared.cmp.Ordering.{Ordering}
use Rattle.std.specs.declared.cmp.Ordering.TheVariants.{Less, Equal, Greater}
use Rattle.std.specs.List.{AllWithin, insert}
use Rattle.std.specs.List.Sorted.{IsNonDecreasingBy}
use Rattle.std.specs.Cmp.{IsTotalOrder, tied_back, alike_right}
use Rattle.std.specs.FinMap.{find, put, is_sorted}
use Rattle.std.specs.FinMap.Entries.{below_all}

-- the two parts of a test of both
both-true : (a b : Bool) → IsTrue (a && b) → IsTrue a × IsTrue b
both-true true b h = (refl, h)
both-true false b h = cc

-- the test for `Less`
is_lt-Less : (o : Ordering) → IsTrue (is_lt o) → o ≡ Less
is_lt-Less Less h = refl
is_lt-Less Equal h = cc
is_lt-Less Greater h = cc

-- an answer that is `Less` wherever another is not `Greater` stands no later
index-rises : (r s : Ordering) → (s ≡ Less → r ≡ Less) → (s ≡ Equal → r ≡ Less) → ordering_index r ≤ ordering_index s
index-rises Less Less a b = omega arith
index-rises Less Equal a b = omega arith
index-rises Less Greater a b = omega arith
index-rises Equal Less a b = let e = a refl in cc
index-rises Equal Equal a b = omega arith
index-rises Equal Greater a b = omega arith
index-rises Greater Less a b = let e = a refl in cc
index-rises Greater Equal a b = let e = b refl in cc
index-rises Greater Greater a b = omega arith

module _ {A K X : Type 0} {R : K → K → Ordering} (o : IsTotalOrder R) (key : A → K) (value : A → X) where
  -- the items as entries of a map
  abbrev entries : List A → List (K × X)
  entries items = map (λ a. (key a, value a)) items

  -- the first item is before each other one
  first-below : (x : A) (items : List A) → IsTrue (is_sorted R (entries (x ∷ items))) → (j : ℕ) (d : A) → j < length items
      → R (key x) (key (get_or items j d)) ≡ Less
  first-below x items h = below items (both-true _ _ h).0
    where
      below : (rest : List A) → IsTrue (below_all R (key x) (entries rest)) → (j : ℕ) (d : A) → j < length rest → R (key x) (key (get_or rest j d)) ≡ Less
      below [] b j d lt = absurd (omega arith)
      below (r ∷ rest) b zero d lt = is_lt-Less _ (both-true _ _ b).0
      below (r ∷ rest) b (suc j) d lt = below rest (both-true _ _ b).1 j d (omega arith)

  -- a list in order stays so without its first item
  rest-sorted : (x : A) (items : List A) → IsTrue (is_sorted R (entries (x ∷ items))) → IsTrue (is_sorted R (entries items))
  rest-sorted x items h = (both-true _ _ h).1

  -- what a key answers to one, against what a greater key answers
  answers-rise : (p q k : K) → R p q ≡ Less → ordering_index (R p k) ≤ ordering_index (R q k)
  answers-rise p q k less = index-rises (R p k) (R q k) (λ e. o.trans p q k less e) (λ e. sym (alike_right o q k p e) ∙ less)

  -- what the items answer to a key does not fall along them
  pub IsNonDecreasingBy-answers : (items : List A) (k : K) → IsTrue (is_sorted R (entries items)) → IsNonDecreasingBy (λ a. ordering_index (R (key a) k)) items
  IsNonDecreasingBy-answers [] k h i j d le lt = absurd (omega arith)
  IsNonDecreasingBy-answers (x ∷ items) k h zero zero d le lt = omega arith
  IsNonDecreasingBy-answers (x ∷ items) k h zero (suc j) d le lt = answers-rise (key x) (key (get_or items j d)) k (first-below x items h j d (omega arith))
  IsNonDecreasingBy-answers (x ∷ items) k h (suc i) zero d le lt = absurd (omega arith)
  IsNonDecreasingBy-answers (x ∷ items) k h (suc i) (suc j) d le lt = IsNonDecreasingBy-answers items k (rest-sorted x items h) i j d (omega arith) (omega arith)

  -- an item before one that ties with the key is before the key
  before : (p q k : K) → R p q ≡ Less → R q k ≡ Equal → R p k ≡ Less
  before p q k less tie = sym (alike_right o q k p tie) ∙ less

  -- a key before another, seen from the other
  turned : (p k : K) → R p k ≡ Less → R k p ≡ Greater
  turned p k less = o.antisymm k p ∙ ap ordering_reverse less

  -- a key behind another, seen from the other
  turned-back : (p k : K) → R p k ≡ Greater → R k p ≡ Less
  turned-back p k more = o.antisymm k p ∙ ap ordering_reverse more

  -- a search passes an item before the key
  find-skips : (x : A) (items : List A) (k : K) → R (key x) k ≡ Less → find R k (entries (x ∷ items)) ≡ find R k (entries items)
  find-skips x items k less = rw (turned (key x) k less) refl

  -- a search passes an item behind the key
  find-passed : (x : A) (items : List A) (k : K) → R (key x) k ≡ Greater → find R k (entries (x ∷ items)) ≡ find R k (entries items)
  find-passed x items k more = rw (turned-back (key x) k more) refl

  -- a search ends at an item that ties
  find-tied : (x : A) (items : List A) (k : K) → R (key x) k ≡ Equal → find R k (entries (x ∷ items)) ≡ Some (value x)
  find-tied x items k tie = rw (tied_back o (key x) k tie) refl

  -- a put passes an item before the key
  put-skips : (x : A) (items : List A) (k : K) (v : X) → R (key x) k ≡ Less → put R k v (entries (x ∷ items)) ≡ (key x, value x) ∷ put R k v (entries items)
  put-skips x items k v less = rw (turned (key x) k less) refl

  -- a put stops at an item behind the key
  put-before : (x : A) (items : List A) (k : K) (v : X) → R (key x) k ≡ Greater → put R k v (entries (x ∷ items)) ≡ (k, v) ∷ entries (x ∷ items)
  put-before x items k v more = rw (turned-back (key x) k more) refl

  -- a put writes an item that ties
  put-tied : (x : A) (items : List A) (k : K) (v : X) → R (key x) k ≡ Equal → put R k v (entries (x ∷ items)) ≡ (key x, v) ∷ entries items
  put-tied x items k v tie = rw (tied_back o (key x) k tie) refl

  -- the value at the place of the item that ties with the key
  pub find-at : (items : List A) (k : K) (at : ℕ) (d : A) → IsTrue (is_sorted R (entries items)) → at < length items → R (key (get_or items at d)) k ≡ Equal
      → find R k (entries items) ≡ Some (value (get_or items at d))
  find-at [] k at d h lt tie = absurd (omega arith)
  find-at (x ∷ items) k zero d h lt tie = find-tied x items k tie
  find-at (x ∷ items) k (suc at) d h lt tie =
      find-skips x items k (before (key x) _ k (first-below x items h at d (omega arith)) tie) ∙ find-at items k at d (rest-sorted x items h) (omega arith) tie

  -- no value where every item is before or behind the key
  pub find-between : (items : List A) (k : K) (at : ℕ) → AllWithin (λ a. R (key a) k ≡ Less) items 0 at → AllWithin (λ a. R (key a) k ≡ Greater) items at (length items)
      → find R k (entries items) ≡ None
  find-between [] k at less more = refl
  find-between (x ∷ items) k zero less more =
      find-passed x items k (more 0 x (omega arith) (omega arith)) ∙ find-between items k zero (λ j d a b. absurd (omega arith)) (λ j d a b. more (suc j) d (omega arith) (omega arith))
  find-between (x ∷ items) k (suc at) less more =
      find-skips x items k (less 0 x (omega arith) (omega arith))
      ∙ find-between items k at (λ j d a b. less (suc j) d (omega arith) (omega arith)) (λ j d a b. more (suc j) d (omega arith) (omega arith))

  -- to put at a key that is there is to write its item
  pub put-at : (items : List A) (k : K) (v : X) (at : ℕ) (d new : A) → IsTrue (is_sorted R (entries items)) → at < length items → R (key (get_or items at d)) k ≡ Equal
      → key new ≡ key (get_or items at d) → value new ≡ v → put R k v (entries items) ≡ entries (set items at new)
  put-at [] k v at d new h lt tie e f = absurd (omega arith)
  put-at (x ∷ items) k v zero d new h lt tie e f = put-tied x items k v tie ∙ (λ i. (sym e i, sym f i) ∷ entries items)
  put-at (x ∷ items) k v (suc at) d new h lt tie e f =
      put-skips x items k v (before (key x) _ k (first-below x items h at d (omega arith)) tie)
      ∙ ap (λ rest. (key x, value x) ∷ rest) (put-at items k v at d new (rest-sorted x items h) (omega arith) tie e f)

  -- to put at a key that is not there is to insert an item between those before and behind it
  pub put-between : (items : List A) (new : A) (at : ℕ) → at ≤ length items → AllWithin (λ a. R (key a) (key new) ≡ Less) items 0 at → AllWithin (λ a. R (key a) (key new) ≡ Greater) items at (length items)
      → put R (key new) (value new) (entries items) ≡ entries (insert items at new)
  put-between [] new zero le less more = refl
  put-between [] new (suc at) le less more = absurd (omega arith)
  put-between (x ∷ items) new zero le less more = put-before x items (key new) (value new) (more 0 x (omega arith) (omega arith))
  put-between (x ∷ items) new (suc at) le less more =
      put-skips x items (key new) (value new) (less 0 x (omega arith) (omega arith))
      ∙ ap (λ rest. (key x, value x) ∷ rest)
      (put-between items new at (omega arith) (λ j d a b. less (suc j) d (omega arith) (omega arith)) (λ j d a b. more (suc j) d (omega arith) (omega arith)))
