-- Lists in an order: where an element stands, and what a change there leaves.
use Rattle.std.proofs.Common.{◌≡◌, ◌∙◌, ℕ, suc, ◌<◌, ◌≤◌, Bool, true, false, List, [], ◌∷◌, length, take, drop, set, get_or, refl, ap, sym, subst, one-add, inl, inr, arith}
use Rattle.std.specs.Prelude.{All, AllPairs, IsTrue, not, ◌&&◌, ◌||◌, ◌==◌, nat_lt, cond, find, filter, insert, remove, Option, Some, None, is_some, slice_get, slice_index_or, if◌then◌else◌, Result, Ok, Err, is_ok, MatchResult}
use Rattle.std.specs.List.{prefix_len}
use Rattle.std.specs.List.Sorted.{IsPartitionedBy, IsPartitionPoint, IsNonDecreasingBy, IsSearchInRange, IsBinarySearchResult}
use Rattle.std.specs.Ordering.{nat_cmp, ordering_index, ordering_then}
use Rattle.std.specs.declared.cmp.Ordering.{Ordering}
use Rattle.std.specs.declared.cmp.Ordering.TheVariants.{Less, Equal, Greater}
use Rattle.std.proofs.lemmas.Bool.Decides.{nat_tests}
use Rattle.std.proofs.lemmas.Bool.{cases_lt, not-true}
use Rattle.std.proofs.lemmas.List.Elements.{All-nil, All-cons, All-head, All-tail, filter_passes}
use Rattle.std.proofs.lemmas.List.Kept.{AllPairs-cons, AllPairs-filter}
use Rattle.std.proofs.lemmas.List.Sums.{prefix_len_is}
use Rattle.std.proofs.lemmas.Option.{slice_get_read}
use Rattle.uid_names.specs.InOrder.{AreInOrder, put_in_order}
use Rattle.uid_names.proofs.Finds.{find-none, find-some, filter-all, filter-none}

-- the first is so to the others
pub AllPairs-head : {X : Type 0} (R : X → X → Type 0) (x : X) (xs : List X) → AllPairs R (x ∷ xs) → All (R x) xs
AllPairs-head R x xs pairs k d below = pairs 0 (suc k) d (omega arith) (omega (arith, below))

-- the others are so to each other
pub AllPairs-tail : {X : Type 0} (R : X → X → Type 0) (x : X) (xs : List X) → AllPairs R (x ∷ xs) → AllPairs R xs
AllPairs-tail R x xs pairs i j d under below = pairs (suc i) (suc j) d (omega (arith, under)) (omega (arith, below))

-- nothing is in order
pub AllPairs-nil : {X : Type 0} (R : X → X → Type 0) → AllPairs R []
AllPairs-nil R i j d under below = absurd (omega (arith, below))

-- what holds of both lists holds of the chosen one
pub chosen : {X : Type 0} (P : List X → Type 0) (b : Bool) {xs ys : List X} → P xs → P ys → P (if b then xs else ys)
chosen P true first second = first
chosen P false first second = second

-- nothing is left of what was taken out
pub taken-out : {X : Type 0} (is_it : X → Bool) (xs : List X) → All (λ x. is_it x ≡ false) (filter (λ x. not (is_it x)) xs)
taken-out is_it xs k d below = not-true (is_it (slice_index_or (filter (λ x. not (is_it x)) xs) k d)) (filter_passes (λ x. not (is_it x)) xs k d below)

module _ {X : Type 0} (lt : X → X → Bool) where
  -- what holds of the new element and of each holds of each with the new one
  pub put_in_order-all : (P : X → Type 0) (new : X) (xs : List X) → P new → All P xs → All P (put_in_order lt new xs)
  put_in_order-all P new [] h others = All-cons P new [] h others
  put_in_order-all P new (x ∷ xs) h others =
      chosen (All P) (lt x new)
      (All-cons P x (put_in_order lt new xs) (All-head P x xs others) (put_in_order-all P new xs h (All-tail P x xs others)))
      (All-cons P new (x ∷ xs) h others)

  -- what holds both ways between the new element and each holds wherever it goes
  pub put_in_order-pairs : (R : X → X → Type 0) (new : X) (xs : List X) → AllPairs R xs → All (R new) xs → All (λ x. R x new) xs → AllPairs R (put_in_order lt new xs)
  put_in_order-pairs R new [] pairs over under = AllPairs-cons R new [] (All-nil (R new)) pairs
  put_in_order-pairs R new (x ∷ xs) pairs over under =
      chosen (AllPairs R) (lt x new)
      (AllPairs-cons R x (put_in_order lt new xs)
      (put_in_order-all (R x) new xs (All-head (λ y. R y new) x xs under) (AllPairs-head R x xs pairs))
      (put_in_order-pairs R new xs (AllPairs-tail R x xs pairs) (All-tail (R new) x xs over) (All-tail (λ y. R y new) x xs under)))
      (AllPairs-cons R new (x ∷ xs) over pairs)

  module _ (trans : (a b c : X) → lt a b ≡ true → lt b c ≡ true → lt a c ≡ true) where
    -- an element that is below or above each goes to its place
    pub put_in_order-rising : (new : X) (xs : List X) → AreInOrder lt xs → All (λ x. lt x new ≡ false → lt new x ≡ true) xs → AreInOrder lt (put_in_order lt new xs)
    put_in_order-rising new [] rising total = AllPairs-cons (λ a b. IsTrue (lt a b)) new [] (All-nil (λ b. IsTrue (lt new b))) rising
    put_in_order-rising new (x ∷ xs) rising total = by_test (lt x new) refl (put_in_order-rising new xs (AllPairs-tail (λ a b. IsTrue (lt a b)) x xs rising) (All-tail (λ y. lt y new ≡ false → lt new y ≡ true) x xs total))
      where
        first : All (λ b. IsTrue (lt x b)) xs
        first = AllPairs-head (λ a b. IsTrue (lt a b)) x xs rising

        by_test : (b : Bool) → lt x new ≡ b → AreInOrder lt (put_in_order lt new xs) → AreInOrder lt (if b then x ∷ put_in_order lt new xs else new ∷ x ∷ xs)
        by_test true e later = AllPairs-cons (λ a b. IsTrue (lt a b)) x (put_in_order lt new xs) (put_in_order-all (λ b. IsTrue (lt x b)) new xs e first) later
        by_test false e later =
            let above : lt new x ≡ true = All-head (λ y. lt y new ≡ false → lt new y ≡ true) x xs total e in
            AllPairs-cons (λ a b. IsTrue (lt a b)) new (x ∷ xs)
            (All-cons (λ b. IsTrue (lt new b)) x xs above (λ k d below. trans new x (slice_index_or xs k d) above (first k d below)))
            rising

    -- and so does one in the place of those that tie with it
    pub replaced-rising : (is_it : X → Bool) (new : X) → ((x : X) → is_it x ≡ false → lt x new ≡ false → lt new x ≡ true) → (xs : List X) → AreInOrder lt xs → AreInOrder lt (put_in_order lt new (filter (λ x. not (is_it x)) xs))
    replaced-rising is_it new total xs rising =
        put_in_order-rising new (filter (λ x. not (is_it x)) xs) (AllPairs-filter (λ a b. IsTrue (lt a b)) (λ x. not (is_it x)) xs rising)
        (λ k d below. total (slice_index_or (filter (λ x. not (is_it x)) xs) k d) (taken-out is_it xs k d below))

-- the choices between a new element, an old one and what others give, by which of them is the one looked for
as_old : {Y : Type 0} (c d : Bool) (new old x y : Y) → c ≡ d → x ≡ (if c then new else y) → x ≡ (if c then new else (if d then old else y))
as_old true d new old x y e h = h
as_old false true new old x y e h = absurd cc
as_old false false new old x y e h = h

past_old : {Y : Type 0} (c d : Bool) (new old x y : Y) → (c ≡ true → d ≡ false) → x ≡ (if c then new else y) → (if d then old else x) ≡ (if c then new else (if d then old else y))
past_old true true new old x y other h = let e = other refl in absurd cc
past_old true false new old x y other h = h
past_old false true new old x y other h = refl
past_old false false new old x y other h = h

past_new : {Y : Type 0} (c d : Bool) (none new old x y : Y) → x ≡ (if c then none else y) → (if c then new else (if d then old else x)) ≡ (if c then new else (if d then old else y))
past_new true d none new old x y h = refl
past_new false d none new old x y h = rw h refl

-- nothing, by either choice
no_row : {X : Type 0} (c : Bool) → ◌≡◌ {A = Option X} None (if c then None else None)
no_row true = refl
no_row false = refl

-- what is found where an element was put in the place of those that tie with it: `test` tells what is looked for
module _ {X : Type 0} (lt : X → X → Bool) (test is_it : X → Bool) (new : X) (alike : (x : X) → is_it x ≡ true → test new ≡ test x) (other : (x : X) → is_it x ≡ false → test new ≡ true → test x ≡ false) where
  -- none of those that tie is found where they were taken out
  pub find-without : (xs : List X) → find test (filter (λ x. not (is_it x)) xs) ≡ (if test new then None else find test xs)
  find-without [] = no_row (test new)
  find-without (x ∷ xs) = by_test (is_it x) refl (find-without xs)
    where
      by_test : (b : Bool) → is_it x ≡ b → find test (filter (λ y. not (is_it y)) xs) ≡ (if test new then None else find test xs) → find test (filter (λ y. not (is_it y)) (x ∷ xs)) ≡ (if test new then None else find test (x ∷ xs))
      by_test true e others = rw e (as_old (test new) (test x) None (Some x) _ _ (alike x e) others)
      by_test false e others = rw e (past_old (test new) (test x) None (Some x) _ _ (other x e) others)

  -- the new one is found, or what was found before
  pub find-replaced : (xs : List X) → find test (put_in_order lt new (filter (λ x. not (is_it x)) xs)) ≡ (if test new then Some new else find test xs)
  find-replaced [] = refl
  find-replaced (x ∷ xs) = by_tests (is_it x) (lt x new) refl refl (find-replaced xs)
    where
      by_tests : (a b : Bool) → is_it x ≡ a → lt x new ≡ b → find test (put_in_order lt new (filter (λ y. not (is_it y)) xs)) ≡ (if test new then Some new else find test xs) → find test (put_in_order lt new (filter (λ y. not (is_it y)) (x ∷ xs))) ≡ (if test new then Some new else find test (x ∷ xs))
      by_tests true b ea eb others = rw ea (as_old (test new) (test x) (Some new) (Some x) _ _ (alike x ea) others)
      by_tests false true ea eb others = rw (ea, eb) (past_old (test new) (test x) (Some new) (Some x) _ _ (other x ea) others)
      by_tests false false ea eb others = rw (ea, eb) (past_new (test new) (test x) None (Some new) (Some x) _ _ (find-without xs))

module _ {X : Type 0} (R : X → X → Type 0) (p : X → Bool) (before : (a b : X) → R a b → p b ≡ true → p a ≡ true) where
  -- what a test says of one it says of all before it
  pub partitioned : (xs : List X) → AllPairs R xs → IsPartitionedBy p xs
  partitioned xs pairs i j d le below passes = elim (cases_lt i j) [
    | inl under ↦ before (get_or xs i d) (get_or xs j d) (pairs i j d under below) passes
    | inr over ↦ (let same : i ≡ j = omega arith in rw same passes)
  ]

  -- the test fails behind one that fails
  pub fails_behind : (x : X) (xs : List X) → AllPairs R (x ∷ xs) → p x ≡ false → All (λ y. p y ≡ false) xs
  fails_behind x xs pairs fails k d below = by_test (p (get_or xs k d)) refl
    where
      by_test : (b : Bool) → p (get_or xs k d) ≡ b → b ≡ false
      by_test true passes = let first = before x (get_or xs k d) (AllPairs-head R x xs pairs k d below) passes in absurd (cc (first, fails))
      by_test false e = refl

  -- what passes is the front
  pub filter-front : (xs : List X) → AllPairs R xs → filter p xs ≡ take (prefix_len p xs) xs
  filter-front [] pairs = refl
  filter-front (x ∷ xs) pairs = by_test (p x) refl (filter-front xs (AllPairs-tail R x xs pairs))
    where
      by_test : (b : Bool) → p x ≡ b → filter p xs ≡ take (prefix_len p xs) xs → filter p (x ∷ xs) ≡ take (prefix_len p (x ∷ xs)) (x ∷ xs)
      by_test true e others = rw (e, one-add, others) refl
      by_test false e others = rw (e, filter-none p xs (fails_behind x xs pairs e)) refl

  -- what fails is the rest
  pub filter-rest : (xs : List X) → AllPairs R xs → filter (λ x. not (p x)) xs ≡ drop (prefix_len p xs) xs
  filter-rest [] pairs = refl
  filter-rest (x ∷ xs) pairs = by_test (p x) refl (filter-rest xs (AllPairs-tail R x xs pairs))
    where
      by_test : (b : Bool) → p x ≡ b → filter (λ y. not (p y)) xs ≡ drop (prefix_len p xs) xs → filter (λ y. not (p y)) (x ∷ xs) ≡ drop (prefix_len p (x ∷ xs)) (x ∷ xs)
      by_test true e others = rw (e, one-add) others
      by_test false e others = rw (e, filter-all (λ y. not (p y)) xs (λ k d below. rw (fails_behind x xs pairs e k d below) refl)) refl

-- a partition point is the length of the front
pub prefix_len-point : {X : Type 0} (p : X → Bool) (xs : List X) (n : ℕ) → n ≤ length xs → IsPartitionPoint (λ y. p y ≡ true) (λ y. p y ≡ false) xs n → prefix_len p xs ≡ n
prefix_len-point p [] n bound point = omega arith
prefix_len-point p (x ∷ xs) n bound point = prefix_len_is p (x ∷ xs) n x bound (λ k below. point.0 k x (omega arith) below) (λ below. point.1 n x (omega arith) below)

-- where none is found, none is left out
pub without-none : {X : Type 0} (is_it : X → Bool) (xs : List X) → is_some (find is_it xs) ≡ false → filter (λ x. not (is_it x)) xs ≡ xs
without-none is_it [] none = refl
without-none is_it (x ∷ xs) none = by_test (is_it x) refl none (without-none is_it xs)
  where
    by_test : (b : Bool) → is_it x ≡ b → is_some (find is_it (x ∷ xs)) ≡ false → (is_some (find is_it xs) ≡ false → filter (λ y. not (is_it y)) xs ≡ xs) → filter (λ y. not (is_it y)) (x ∷ xs) ≡ x ∷ xs
    by_test true e none others = let h = rw e at none in absurd cc
    by_test false e none others = rw (e, others (rw e at none)) refl

-- an element, where it is the one that is looked for
abbrev pub if_it : {X : Type 0} → (X → Bool) → Option X → Option X
if_it is_it None = None
if_it is_it (Some x) = if is_it x then Some x else None

-- where the one that is looked for stands: `is_before` tells which elements stand before it
module _ {X : Type 0} (lt : X → X → Bool) (is_before is_it : X → Bool) (apart : (a : X) → is_before a ≡ true → is_it a ≡ false) (later : (a b : X) → lt a b ≡ true → is_before a ≡ false → is_it b ≡ false) where
  -- behind one that does not stand before it, none is that one
  behind : (x : X) (xs : List X) → AreInOrder lt (x ∷ xs) → is_before x ≡ false → All (λ y. is_it y ≡ false) xs
  behind x xs rising e k d below = later x (get_or xs k d) (AllPairs-head (λ a b. IsTrue (lt a b)) x xs rising k d below) e

  -- it is found at its place
  pub find-place : (xs : List X) → AreInOrder lt xs → find is_it xs ≡ if_it is_it (slice_get xs (prefix_len is_before xs))
  find-place [] rising = refl
  find-place (x ∷ xs) rising = by_test (is_before x) refl (find-place xs (AllPairs-tail (λ a b. IsTrue (lt a b)) x xs rising))
    where
      by_test : (b : Bool) → is_before x ≡ b → find is_it xs ≡ if_it is_it (slice_get xs (prefix_len is_before xs)) → find is_it (x ∷ xs) ≡ if_it is_it (slice_get (x ∷ xs) (prefix_len is_before (x ∷ xs)))
      by_test true e others = rw (e, one-add, apart x e) others
      by_test false e others = rw (e, find-none is_it xs (behind x xs rising e)) refl

  -- what was read at its place is it, if it is there
  pub find-read : (xs : List X) → AreInOrder lt xs → (at : ℕ) (x : X) → at ≡ prefix_len is_before xs → at < length xs → x ≡ get_or xs at x → find is_it xs ≡ if_it is_it (Some x)
  find-read xs rising at x place below read = rw (find-place xs rising, ← place, slice_get_read xs (length xs) at x refl below read) refl

  -- and is it, where it is there
  pub find-found : (xs : List X) → AreInOrder lt xs → (at : ℕ) (x : X) → at ≡ prefix_len is_before xs → at < length xs → x ≡ get_or xs at x → is_some (find is_it xs) ≡ true → find is_it xs ≡ Some x
  find-found xs rising at x place below read found = by_test (is_it x) refl (find-read xs rising at x place below read) found
    where
      by_test : (b : Bool) → is_it x ≡ b → find is_it xs ≡ if_it is_it (Some x) → is_some (find is_it xs) ≡ true → find is_it xs ≡ Some x
      by_test true e is found = is ∙ rw e refl
      by_test false e is found = let h = rw (is, e) at found in absurd cc

  -- it goes out at its place
  pub remove-place : (xs : List X) → AreInOrder lt xs → is_some (find is_it xs) ≡ true → remove xs (prefix_len is_before xs) ≡ filter (λ x. not (is_it x)) xs
  remove-place [] rising found = absurd cc
  remove-place (x ∷ xs) rising found = by_test (is_before x) (is_it x) refl refl found (remove-place xs (AllPairs-tail (λ a b. IsTrue (lt a b)) x xs rising))
    where
      by_test : (b s : Bool) → is_before x ≡ b → is_it x ≡ s → is_some (find is_it (x ∷ xs)) ≡ true → (is_some (find is_it xs) ≡ true → remove xs (prefix_len is_before xs) ≡ filter (λ y. not (is_it y)) xs) → remove (x ∷ xs) (prefix_len is_before (x ∷ xs)) ≡ filter (λ y. not (is_it y)) (x ∷ xs)
      by_test true s e f found others =
          let no = apart x e in
          rw (e, one-add, no) (ap (λ ys. x ∷ ys) (others (rw no at found)))
      by_test false true e f found others = rw (e, f, filter-all (λ y. not (is_it y)) xs (λ k d below. rw (behind x xs rising e k d below) refl)) refl
      by_test false false e f found others = let h = rw (f, find-none is_it xs (behind x xs rising e)) at found in absurd cc

module _ {X : Type 0} (lt : X → X → Bool) (trans : (a b c : X) → lt a b ≡ true → lt b c ≡ true → lt a c ≡ true) (new : X) where
  -- an element goes in before all that are not below it
  put_in_order-first : (xs : List X) → All (λ x. lt x new ≡ false) xs → put_in_order lt new xs ≡ new ∷ xs
  put_in_order-first [] fails = refl
  put_in_order-first (x ∷ xs) fails = rw (All-head (λ y. lt y new ≡ false) x xs fails) refl

  -- and behind all that are below it
  pub insert-place : (xs : List X) → insert xs (prefix_len (λ x. lt x new) xs) new ≡ put_in_order lt new xs
  insert-place [] = refl
  insert-place (x ∷ xs) = by_test (lt x new) refl (insert-place xs)
    where
      by_test : (b : Bool) → lt x new ≡ b → insert xs (prefix_len (λ y. lt y new) xs) new ≡ put_in_order lt new xs → insert (x ∷ xs) (prefix_len (λ y. lt y new) (x ∷ xs)) new ≡ put_in_order lt new (x ∷ xs)
      by_test true e others = rw (e, one-add) (ap (λ ys. x ∷ ys) others)
      by_test false e others = rw e refl

  -- it takes the place of the one that ties with it
  pub set-place : (is_it : X → Bool) → ((a : X) → lt a new ≡ true → is_it a ≡ false) → ((a b : X) → lt a b ≡ true → lt a new ≡ false → is_it b ≡ false) → (xs : List X) → AreInOrder lt xs → is_some (find is_it xs) ≡ true
      → set xs (prefix_len (λ x. lt x new) xs) new ≡ put_in_order lt new (filter (λ x. not (is_it x)) xs)
  set-place is_it apart later [] rising found = absurd cc
  set-place is_it apart later (x ∷ xs) rising found =
      by_test (lt x new) (is_it x) refl refl found (set-place is_it apart later xs (AllPairs-tail (λ a b. IsTrue (lt a b)) x xs rising))
    where
      others_apart : lt x new ≡ false → All (λ y. is_it y ≡ false) xs
      others_apart = behind lt (λ y. lt y new) is_it apart later x xs rising

      by_test : (b s : Bool) → lt x new ≡ b → is_it x ≡ s → is_some (find is_it (x ∷ xs)) ≡ true → (is_some (find is_it xs) ≡ true → set xs (prefix_len (λ y. lt y new) xs) new ≡ put_in_order lt new (filter (λ y. not (is_it y)) xs)) → set (x ∷ xs) (prefix_len (λ y. lt y new) (x ∷ xs)) new ≡ put_in_order lt new (filter (λ y. not (is_it y)) (x ∷ xs))
      by_test true s e f found others =
          let no = apart x e in
          rw (e, one-add, no, e) (ap (λ ys. x ∷ ys) (others (rw no at found)))
      by_test false true e f found others =
          rw (e, f, filter-all (λ y. not (is_it y)) xs (λ k d below. rw (others_apart e k d below) refl))
          (sym (put_in_order-first xs (fails_behind (λ a b. IsTrue (lt a b)) (λ y. lt y new) (λ a b. trans a b new) x xs rising e)))
      by_test false false e f found others = let h = rw (f, find-none is_it xs (others_apart e)) at found in absurd cc

-- a comparison with what is looked for says the same as the two tests
abbrev pub Agrees : Ordering → Bool → Bool → Type 0
Agrees Less before it = (before ≡ true) × (it ≡ false)
Agrees Equal before it = (before ≡ false) × (it ≡ true)
Agrees Greater before it = (before ≡ false) × (it ≡ false)

-- numbers compare as they stand
pub Agrees-nat : (m n : ℕ) → Agrees (nat_cmp m n) (nat_lt m n) (m == n)
Agrees-nat m n = by_tests (nat_lt m n) (m == n) refl refl
  where
    by_tests : (b i : Bool) → nat_lt m n ≡ b → (m == n) ≡ i → Agrees (cond b Less (cond i Equal Greater)) b i
    by_tests true true e f = absurd (grind (arith, nat_tests, e, f))
    by_tests true false e f = (refl, refl)
    by_tests false true e f = (refl, refl)
    by_tests false false e f = (refl, refl)

-- a comparison by one thing and then by another
pub Agrees-then : (o p : Ordering) (b c i j : Bool) → Agrees o b i → Agrees p c j → Agrees (ordering_then o p) (b || (i && c)) (i && j)
Agrees-then Less p b c i j h second = let yes = h.0 in let no = h.1 in (rw yes refl, rw no refl)
Agrees-then Greater p b c i j h second = let no = h.0 in let neither = h.1 in (rw (no, neither) refl, rw neither refl)
Agrees-then Equal p b c i j h second = let no = h.0 in let yes = h.1 in rw (no, yes) second

-- what a binary search answers: the place, and whether the one that is looked for is there
pub record IsSearch {X : Type 0} (is_before is_it : X → Bool) (xs : List X) (r : Result ℕ ℕ) : Type 0 where
  pub place : MatchResult r (λ at. at ≡ prefix_len is_before xs) (λ at. at ≡ prefix_len is_before xs)
  pub found : is_ok r ≡ is_some (find is_it xs)

module _ {X : Type 0} (lt : X → X → Bool) (is_before is_it : X → Bool) (ord : X → Ordering) (agrees : (x : X) → Agrees (ord x) (is_before x) (is_it x)) (onward : (a b : X) → lt a b ≡ true → is_before b ≡ true → is_before a ≡ true) (later : (a b : X) → lt a b ≡ true → is_before a ≡ false → is_it b ≡ false) where
  -- the comparisons rise from one element to a later one
  rises : (a b : X) → lt a b ≡ true → ordering_index (ord a) ≤ ordering_index (ord b)
  rises a b less = by_answers (ord a) (ord b) (agrees a) (agrees b)
    where
      by_answers : (o p : Ordering) → Agrees o (is_before a) (is_it a) → Agrees p (is_before b) (is_it b) → ordering_index o ≤ ordering_index p
      by_answers Less p h k = omega arith
      by_answers Equal Less h k = let e = onward a b less k.0 in absurd (cc (e, h.0))
      by_answers Equal Equal h k = omega arith
      by_answers Equal Greater h k = omega arith
      by_answers Greater Less h k = let e = onward a b less k.0 in absurd (cc (e, h.0))
      by_answers Greater Equal h k = let e = later a b less h.0 in absurd (cc (e, k.1))
      by_answers Greater Greater h k = omega arith

  rise : (xs : List X) → AreInOrder lt xs → IsNonDecreasingBy (λ x. ordering_index (ord x)) xs
  rise xs rising i j d le below = elim (cases_lt i j) [
    | inl under ↦ rises (get_or xs i d) (get_or xs j d) (rising i j d under below)
    | inr over ↦ (let same : i ≡ j = omega arith in rw same (omega arith))
  ]

  -- what an answer says of an element
  says : (x : X) (o : Ordering) → ord x ≡ o → Agrees o (is_before x) (is_it x)
  says x o e = subst (λ q. Agrees q (is_before x) (is_it x)) e (agrees x)

  -- an element before the one that is looked for stands before it
  front_is_before : (xs : List X) → AreInOrder lt xs → (at k : ℕ) (d : X) → k < at → at < length xs → ord (get_or xs at d) ≡ Equal → is_before (get_or xs k d) ≡ true
  front_is_before xs rising at k d under below tie = by_test (is_before (get_or xs k d)) refl
    where
      by_test : (b : Bool) → is_before (get_or xs k d) ≡ b → b ≡ true
      by_test true e = refl
      by_test false e =
          let no = later (get_or xs k d) (get_or xs at d) (rising k at d under below) e in
          let yes = says (get_or xs at d) Equal tie in
          absurd (cc (no, yes.1))

  pub searched : (xs : List X) → AreInOrder lt xs → (r : Result ℕ ℕ) → IsSearchInRange r (length xs) → IsBinarySearchResult ord xs r → IsSearch is_before is_it xs r
  searched [] rising (Ok at) bound tie = absurd (omega (arith, bound))
  searched (x ∷ xs) rising (Ok at) bound tie =
      let place : prefix_len is_before (x ∷ xs) ≡ at =
      prefix_len_is is_before (x ∷ xs) at x (omega (arith, bound)) (λ k under. front_is_before (x ∷ xs) rising at k x under bound (tie x)) (λ below. (says (get_or (x ∷ xs) at x) Equal (tie x)).0) in
      record {
        place = sym place;
        found = sym (find-some is_it (x ∷ xs) at x bound (says (get_or (x ∷ xs) at x) Equal (tie x)).1);
      }
  searched xs rising (Err at) bound parted =
      let parts = parted (rise xs rising) in
      let before = λ (k : ℕ) (d : X) (from : 0 ≤ k) (under : k < at). says (get_or xs k d) Less (parts.0 k d from under) in
      let behind_it = λ (k : ℕ) (d : X) (from : at ≤ k) (under : k < length xs). says (get_or xs k d) Greater (parts.1 k d from under) in
      record {
        place = sym (prefix_len-point is_before xs at bound (λ k d from under. (before k d from under).0, λ k d from under. (behind_it k d from under).0));
        found = sym (ap is_some (find-none is_it xs (λ k d below. elim (cases_lt k at) [
          | inl under ↦ (before k d (omega arith) under).1
          | inr over ↦ (behind_it k d over below).1
        ])));
      }
