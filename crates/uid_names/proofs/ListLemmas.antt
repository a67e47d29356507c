-- Lemmas on tests over lists: what is found, what a filter leaves, how many pass.
use Rattle.std.proofs.Common.{◌≡◌, ◌≢◌, ℕ, zero, suc, ◌+◌, ◌<◌, ◌≤◌, Bool, true, false, not, cond, List, [], ◌∷◌, ◌++◌, map, filter, length, get_or, Option, Some, None, MatchOption, count_by, nat_lt, length-append, replicate, reverse, refl, subst, sym, ap, ◌∙◌, arith}
use Rattle.std.proofs.lemmas.Bool.Decides.{nat_tests}
use Rattle.std.proofs.lemmas.List.{reverse-append}
use Rattle.std.proofs.lemmas.List.Sums.{sum_by-cons, length-filter}
use Rattle.std.proofs.lemmas.List.Filters.{length-filter_both}
use Rattle.std.proofs.lemmas.List.Elements.{All-head, All-tail, All-push}
use Rattle.std.specs.Prelude.{IsSome, All, ◌==◌, slice_get, slice_index_or, slice_set}
use Rattle.std.specs.List.{find, list_any, list_all, remove, position, position_or_len}
use Rattle.std.specs.Option.{option_map, option_or}
use Rattle.uid_names.proofs.Passed.{left-true, right-true, equal}

-- what holds at either value of a test
pub by_cases : (b : Bool) (P : Type 0) → (b ≡ true → P) → (b ≡ false → P) → P
by_cases true P yes_case no_case = yes_case refl
by_cases false P yes_case no_case = no_case refl

-- an item that is set, and the others
pub set-there : {A : Type 0} (xs : List A) (i : ℕ) (y : A) → i < length xs → slice_get (slice_set xs i y) i ≡ Some y
set-there [] i y low = absurd (omega (arith, low))
set-there (x ∷ xs) zero y low = refl
set-there (x ∷ xs) (suc i) y low = set-there xs i y (omega (arith, low))

pub set-else : {A : Type 0} (xs : List A) (i n : ℕ) (y : A) → n ≢ i → slice_get (slice_set xs i y) n ≡ slice_get xs n
set-else [] i n y differs = refl
set-else (x ∷ xs) zero zero y differs = absurd (differs refl)
set-else (x ∷ xs) zero (suc n) y differs = refl
set-else (x ∷ xs) (suc i) zero y differs = refl
set-else (x ∷ xs) (suc i) (suc n) y differs = set-else xs i n y (λ same. differs (ap suc same))

-- what stands in a list stands there where more is behind, and what is put behind it stands at its end
pub front : {A : Type 0} (xs ys : List A) (k : ℕ) (x : A) → slice_get xs k ≡ Some x → slice_get (xs ++ ys) k ≡ Some x
front [] ys k x e = absurd (cc)
front (z ∷ xs) ys zero x e = e
front (z ∷ xs) ys (suc k) x e = front xs ys k x e

pub end-there : {A : Type 0} (xs : List A) (y : A) → slice_get (xs ++ y ∷ []) (length xs) ≡ Some y
end-there [] y = refl
end-there (x ∷ xs) y = end-there xs y

-- what holds of each holds of each from the last one on
pub All-reverse : {X : Type 0} (P : X → Type 0) (xs : List X) → All P xs → All P (reverse xs)
All-reverse P [] all = all
All-reverse P (x ∷ xs) all = subst (All P) (sym (reverse-append (x ∷ []) xs)) (All-push P (reverse xs) x (All-reverse P xs (All-tail P x xs all)) (All-head P x xs all))

module _ {X : Type 0} (p : X → Bool) where
  -- one more to count where the first passes
  pub count_by-cons : (x : X) (xs : List X) → count_by p (x ∷ xs) ≡ cond (p x) 1 0 + count_by p xs
  count_by-cons x xs = sum_by-cons (λ y. cond (p y) 1 0) x xs

  -- the first passes
  pub count_by-cons_passes : (x : X) (xs : List X) → p x ≡ true → count_by p (x ∷ xs) ≡ suc (count_by p xs)
  count_by-cons_passes x xs is = count_by-cons x xs ∙ ap (λ b. cond b 1 0 + count_by p xs) is ∙ omega arith

  -- the first fails
  pub count_by-cons_fails : (x : X) (xs : List X) → p x ≡ false → count_by p (x ∷ xs) ≡ count_by p xs
  count_by-cons_fails x xs is = count_by-cons x xs ∙ ap (λ b. cond b 1 0 + count_by p xs) is ∙ omega arith

  -- nothing is found where none passes, and the other way round
  pub find-count_none : (xs : List X) → count_by p xs ≡ 0 → find p xs ≡ None
  find-count_none [] none = refl
  find-count_none (x ∷ xs) none =
      by_cases
      (p x)
      (find p (x ∷ xs) ≡ None)
      (λ is. absurd (omega (arith, count_by-cons_passes x xs is)))
      (λ is. rw is (find-count_none xs (omega (arith, count_by-cons_fails x xs is))))

  -- none passes where nothing is found
  pub count_by-none : (xs : List X) → find p xs ≡ None → count_by p xs ≡ 0
  count_by-none [] none = refl
  count_by-none (x ∷ xs) none =
      by_cases
      (p x)
      (count_by p (x ∷ xs) ≡ 0)
      (λ is. absurd (let h : Some x ≡ None = rw is at none in cc))
      (λ is. count_by-cons_fails x xs is ∙ count_by-none xs (rw is at none))

  -- what is found is counted
  pub count_by-found : (xs : List X) (x : X) → find p xs ≡ Some x → 0 < count_by p xs
  count_by-found [] x found = absurd (cc)
  count_by-found (y ∷ xs) x found =
      by_cases
      (p y)
      (0 < count_by p (y ∷ xs))
      (λ is. omega (arith, count_by-cons_passes y xs is))
      (λ is. omega (arith, count_by-cons_fails y xs is, count_by-found xs x (rw is at found)))

  -- to take away those that pass leaves all, where none does
  pub filter_not-none : (xs : List X) → count_by p xs ≡ 0 → filter (λ x. not (p x)) xs ≡ xs
  filter_not-none [] none = refl
  filter_not-none (x ∷ xs) none =
      by_cases
      (p x)
      (filter (λ y. not (p y)) (x ∷ xs) ≡ x ∷ xs)
      (λ is. absurd (omega (arith, count_by-cons_passes x xs is)))
      (λ is. rw is (ap (λ ys. x ∷ ys) (filter_not-none xs (omega (arith, count_by-cons_fails x xs is)))))

  -- those that pass and the others are all
  pub length-filter_not : (xs : List X) → count_by p xs + length (filter (λ x. not (p x)) xs) ≡ length xs
  length-filter_not xs = ap (λ n. n + length (filter (λ x. not (p x)) xs)) (sym (length-filter p xs)) ∙ length-filter_both p (λ x. not (p x)) (λ x. refl) xs

  -- none passes where the first place that passes is the end
  count_by-no_place : (xs : List X) → length xs ≤ position_or_len p xs → count_by p xs ≡ 0
  count_by-no_place [] past = refl
  count_by-no_place (x ∷ xs) past =
      by_cases
      (p x)
      (count_by p (x ∷ xs) ≡ 0)
      (λ is. absurd (let h : suc (length xs) ≤ 0 = rw is at past in omega arith))
      (λ is. let h : suc (length xs) ≤ 1 + position_or_len p xs = rw is at past in count_by-cons_fails x xs is ∙ count_by-no_place xs (omega arith))

  -- what stands in the first place that passes is found
  find-place : (xs : List X) (i : ℕ) (d : X) → position_or_len p xs ≡ i → i < length xs → find p xs ≡ Some (get_or xs i d)
  find-place [] i d at within = absurd (omega arith)
  find-place (x ∷ xs) zero d at within =
      by_cases
      (p x)
      (find p (x ∷ xs) ≡ Some x)
      (λ is. rw is refl)
      (λ is. absurd (let h : 1 + position_or_len p xs ≡ 0 = rw is at at in omega arith))
  find-place (x ∷ xs) (suc i) d at within =
      by_cases
      (p x)
      (find p (x ∷ xs) ≡ Some (get_or xs i d))
      (λ is. absurd (let h : 0 ≡ suc i = rw is at at in omega arith))
      (λ is. let h : 1 + position_or_len p xs ≡ suc i = rw is at at in rw is (find-place xs i d (omega arith) (omega arith)))

  -- to take it out leaves the others, where no other passes
  remove-place : (xs : List X) (i : ℕ) → position_or_len p xs ≡ i → i < length xs → count_by p xs ≤ 1 → remove xs i ≡ filter (λ x. not (p x)) xs
  remove-place [] i at within once = absurd (omega arith)
  remove-place (x ∷ xs) zero at within once =
      by_cases
      (p x)
      (remove (x ∷ xs) 0 ≡ filter (λ y. not (p y)) (x ∷ xs))
      (λ is. rw is (sym (filter_not-none xs (omega (arith, count_by-cons_passes x xs is)))))
      (λ is. absurd (let h : 1 + position_or_len p xs ≡ 0 = rw is at at in omega arith))
  remove-place (x ∷ xs) (suc i) at within once =
      by_cases
      (p x)
      (remove (x ∷ xs) (suc i) ≡ filter (λ y. not (p y)) (x ∷ xs))
      (λ is. absurd (let h : 0 ≡ suc i = rw is at at in omega arith))
      (λ is. let h : 1 + position_or_len p xs ≡ suc i = rw is at at in rw is (ap (λ ys. x ∷ ys) (remove-place xs i (omega arith) (omega arith) (omega (arith, count_by-cons_fails x xs is)))))

  -- the place of the first that passes, if one does
  position_tells : (xs : List X) (o : Option ℕ) → position p xs ≡ o → MatchOption o (length xs ≤ position_or_len p xs) (λ i. (position_or_len p xs ≡ i) × (i < length xs))
  position_tells xs o is =
      let P : Option ℕ → Type 0 = λ r. MatchOption r (length xs ≤ position_or_len p xs) (λ i. (position_or_len p xs ≡ i) × (i < length xs)) in
      by_cases
      (nat_lt (position_or_len p xs) (length xs))
      (P o)
      (λ lt. let within : position_or_len p xs < length xs = grind (arith, nat_tests) in subst P (rw lt at is) (refl, within))
      (λ ge. let past : length xs ≤ position_or_len p xs = grind (arith, nat_tests) in subst P (rw ge at is) past)

  -- none passes where no place is found
  pub count_by-position_none : (xs : List X) → position p xs ≡ None → count_by p xs ≡ 0
  count_by-position_none xs is = count_by-no_place xs (position_tells xs None is)

  -- the place is one of the list
  pub position_within : (xs : List X) (i : ℕ) → position p xs ≡ Some i → i < length xs
  position_within xs i is = (position_tells xs (Some i) is).1

  -- what stands there is found
  pub find-position : (xs : List X) (i : ℕ) (d : X) → position p xs ≡ Some i → find p xs ≡ Some (get_or xs i d)
  find-position xs i d is = let tells = position_tells xs (Some i) is in find-place xs i d tells.0 tells.1

  -- to take it out leaves the others, where no other passes
  pub remove-position : (xs : List X) (i : ℕ) → position p xs ≡ Some i → count_by p xs ≤ 1 → remove xs i ≡ filter (λ x. not (p x)) xs
  remove-position xs i is once = let tells = position_tells xs (Some i) is in remove-place xs i tells.0 tells.1 once

  -- one more behind is found where none before it is
  pub find-push : (xs : List X) (x : X) → find p (xs ++ x ∷ []) ≡ option_or (find p xs) (cond (p x) (Some x) None)
  find-push [] x = refl
  find-push (y ∷ xs) x = elim (p y) as (λ b. cond b (Some y) (find p (xs ++ x ∷ [])) ≡ option_or (cond b (Some y) (find p xs)) (cond (p x) (Some x) None)) [ true ↦ refl | false ↦ find-push xs x ]

-- nothing is no value
pub none_is_no_some : {X : Type 0} (o : Option X) → IsSome o → o ≡ None → ⊥
none_is_no_some None some none = cc
none_is_no_some (Some x) some none = cc

-- as many pass with one more behind as before
pub count_by-push : {X : Type 0} (p : X → Bool) (xs : List X) (x : X) → count_by p (xs ++ x ∷ []) ≡ count_by p (x ∷ xs)
count_by-push p [] x = refl
count_by-push p (y ∷ xs) x = omega (arith, count_by-cons p y (xs ++ x ∷ []), count_by-push p xs x, count_by-cons p x (y ∷ xs), count_by-cons p y xs, count_by-cons p x xs)

module _ {X : Type 0} (p q : X → Bool) where
  -- no more pass among those that a filter leaves
  pub count_by-filter-le : (xs : List X) → count_by p (filter q xs) ≤ count_by p xs
  count_by-filter-le [] = omega arith
  count_by-filter-le (x ∷ xs) =
      by_cases
      (q x)
      (count_by p (filter q (x ∷ xs)) ≤ count_by p (x ∷ xs))
      (λ is. rw is (omega (arith, count_by-cons p x xs, count_by-cons p x (filter q xs), count_by-filter-le xs)))
      (λ is. rw is (omega (arith, count_by-cons p x xs, count_by-filter-le xs)))

  -- a filter that takes those that pass
  pub count_by-filter_takes : ((x : X) → p x ≡ true → q x ≡ false) → (xs : List X) → count_by p (filter q xs) ≡ 0
  count_by-filter_takes takes [] = refl
  count_by-filter_takes takes (x ∷ xs) =
      let rest = count_by-filter_takes takes xs in
      by_cases
      (q x)
      (count_by p (filter q (x ∷ xs)) ≡ 0)
      (λ is.
      by_cases
      (p x)
      (count_by p (filter q (x ∷ xs)) ≡ 0)
      (λ passes. absurd (let h : q x ≡ false = takes x passes in cc))
      (λ fails. rw is (count_by-cons_fails p x (filter q xs) fails ∙ rest)))
      (λ is. rw is rest)

  -- a filter behind one that leaves what it leaves
  pub filter-filter_leaves : ((x : X) → p x ≡ true → q x ≡ true) → (xs : List X) → filter p (filter q xs) ≡ filter p xs
  filter-filter_leaves leaves [] = refl
  filter-filter_leaves leaves (x ∷ xs) =
      let rest = filter-filter_leaves leaves xs in
      by_cases
      (q x)
      (filter p (filter q (x ∷ xs)) ≡ filter p (x ∷ xs))
      (λ is. rw is (ap (λ ys. cond (p x) (x ∷ ys) ys) rest))
      (λ is.
      by_cases
      (p x)
      (filter p (filter q (x ∷ xs)) ≡ filter p (x ∷ xs))
      (λ passes. absurd (let h : q x ≡ true = leaves x passes in cc))
      (λ fails. rw (is, fails) rest))

  -- what is found behind a filter that leaves those that pass
  pub find-filter_leaves : ((x : X) → p x ≡ true → q x ≡ true) → (xs : List X) → find p (filter q xs) ≡ find p xs
  find-filter_leaves leaves [] = refl
  find-filter_leaves leaves (x ∷ xs) =
      let rest = find-filter_leaves leaves xs in
      by_cases
      (q x)
      (find p (filter q (x ∷ xs)) ≡ find p (x ∷ xs))
      (λ is. rw is (ap (cond (p x) (Some x)) rest))
      (λ is.
      by_cases
      (p x)
      (find p (filter q (x ∷ xs)) ≡ find p (x ∷ xs))
      (λ passes. absurd (let h : q x ≡ true = leaves x passes in cc))
      (λ fails. rw (is, fails) rest))

module _ {X : Type 0} (p q : X → Bool) where
  -- what one test finds passes another, and is counted there
  pub count_by-found_by : (xs : List X) (s : X) → find p xs ≡ Some s → q s ≡ true → 0 < count_by q xs
  count_by-found_by [] s found passes = absurd (cc)
  count_by-found_by (x ∷ xs) s found passes =
      by_cases
      (p x)
      (0 < count_by q (x ∷ xs))
      (λ is. let h : Some x ≡ Some s = rw is at found in let same : x ≡ s = cc in omega (arith, count_by-cons_passes q x xs (rw same passes)))
      (λ is. omega (arith, count_by-cons q x xs, count_by-found_by xs s (rw is at found) passes))

  -- and is what that test finds, where it passes once
  pub find_once : (xs : List X) (s : X) → count_by q xs ≤ 1 → find p xs ≡ Some s → q s ≡ true → find q xs ≡ Some s
  find_once [] s once found passes = absurd (cc)
  find_once (x ∷ xs) s once found passes =
      by_cases
      (p x)
      (find q (x ∷ xs) ≡ Some s)
      (λ is. let h : Some x ≡ Some s = rw is at found in let same : x ≡ s = cc in let here : q x ≡ true = rw same passes in rw here h)
      (λ is. let later : find p xs ≡ Some s = rw is at found in
      by_cases
      (q x)
      (find q (x ∷ xs) ≡ Some s)
      (λ here. absurd (omega (arith, count_by-cons_passes q x xs here, count_by-found_by xs s later passes)))
      (λ fails. rw fails (find_once xs s (omega (arith, count_by-cons_fails q x xs fails)) later passes)))

  -- one less passes where what was found is taken away
  pub count_by-filter_found : (xs : List X) (s : X) → find p xs ≡ Some s → q s ≡ true → suc (count_by q (filter (λ x. not (p x)) xs)) ≤ count_by q xs
  count_by-filter_found [] s found passes = absurd (cc)
  count_by-filter_found (x ∷ xs) s found passes =
      by_cases
      (p x)
      (suc (count_by q (filter (λ y. not (p y)) (x ∷ xs))) ≤ count_by q (x ∷ xs))
      (λ is. let h : Some x ≡ Some s = rw is at found in let same : x ≡ s = cc in
      rw is (omega (arith, count_by-cons_passes q x xs (rw same passes), count_by-filter-le q (λ y. not (p y)) xs)))
      (λ is. rw is (omega (arith, count_by-cons q x xs, count_by-cons q x (filter (λ y. not (p y)) xs), count_by-filter_found xs s (rw is at found) passes)))

  -- as many pass where the one that was found is brought to the front
  pub count_by-to_front : (xs : List X) (s : X) → find p xs ≡ Some s → count_by p xs ≤ 1 → count_by q (s ∷ filter (λ x. not (p x)) xs) ≡ count_by q xs
  count_by-to_front [] s found once = absurd (cc)
  count_by-to_front (x ∷ xs) s found once =
      by_cases
      (p x)
      (count_by q (s ∷ filter (λ y. not (p y)) (x ∷ xs)) ≡ count_by q (x ∷ xs))
      (λ is. let h : Some x ≡ Some s = rw is at found in let same : x ≡ s = cc in
      rw (is, filter_not-none p xs (omega (arith, count_by-cons_passes p x xs is)), same) refl)
      (λ is. rw is
      (omega (
        arith,
        count_by-cons q s (x ∷ filter (λ y. not (p y)) xs),
        count_by-cons q x (filter (λ y. not (p y)) xs),
        count_by-cons q s (filter (λ y. not (p y)) xs),
        count_by-cons q x xs,
        count_by-to_front xs s (rw is at found) (omega (arith, count_by-cons_fails p x xs is)),
      )))

module _ {X Y : Type 0} (f : X → Y) (p : Y → Bool) where
  -- the first image that passes
  pub find-map : (xs : List X) → find p (map f xs) ≡ option_map f (find (λ x. p (f x)) xs)
  find-map [] = refl
  find-map (x ∷ xs) = elim (p (f x)) as (λ b. cond b (Some (f x)) (find p (map f xs)) ≡ option_map f (cond b (Some x) (find (λ y. p (f y)) xs))) [ true ↦ refl | false ↦ find-map xs ]

  -- a filter of the images
  pub filter-map : (xs : List X) → filter p (map f xs) ≡ map f (filter (λ x. p (f x)) xs)
  filter-map [] = refl
  filter-map (x ∷ xs) = elim (p (f x)) as (λ b. cond b (f x ∷ filter p (map f xs)) (filter p (map f xs)) ≡ map f (cond b (x ∷ filter (λ y. p (f y)) xs) (filter (λ y. p (f y)) xs))) [ true ↦ ap (λ ys. f x ∷ ys) (filter-map xs) | false ↦ filter-map xs ]

  -- how many images pass
  pub count_by-map : (xs : List X) → count_by p (map f xs) ≡ count_by (λ x. p (f x)) xs
  count_by-map [] = refl
  count_by-map (x ∷ xs) = count_by-cons p (f x) (map f xs) ∙ ap (λ n. cond (p (f x)) 1 0 + n) (count_by-map xs) ∙ sym (count_by-cons (λ y. p (f y)) x xs)

-- what holds of all is so of what is found
pub All-found : {X : Type 0} (P : X → Type 0) (test : X → Bool) (xs : List X) (x : X) → All P xs → find test xs ≡ Some x → P x
All-found P test [] x all found = absurd cc
All-found P test (y ∷ ys) x all found = by (test y) found (All-found P test ys x (All-tail P y ys all))
  where
    by : (b : Bool) → (cond b (Some y) (find test ys)) ≡ Some x → (find test ys ≡ Some x → P x) → P x
    by true is others = let same : y ≡ x = cc in rw (← same) (All-head P y ys all)
    by false is others = others is

-- what is said of all may say less
pub All-more : {X : Type 0} (P Q : X → Type 0) (xs : List X) → ((x : X) → P x → Q x) → All P xs → All Q xs
All-more P Q xs more all k d below = more (slice_index_or xs k d) (all k d below)

-- a test that all pass is passed by a number among them
pub list_all-one : (test : ℕ → Bool) (xs : List ℕ) (n : ℕ) → list_all test xs ≡ true → list_any (λ x. x == n) xs ≡ true → test n ≡ true
list_all-one test [] n all there = absurd (cc)
list_all-one test (x ∷ xs) n all there =
    by_cases
    (x == n)
    (test n ≡ true)
    (λ e. subst (λ k. test k ≡ true) (equal x n e) (left-true (test x) (list_all test xs) all))
    (λ e. list_all-one test xs n (right-true (test x) (list_all test xs) all) (grind (arith, nat_tests, e, there)))

-- one more behind
pub length-push : {X : Type 0} (xs : List X) (x : X) → length (xs ++ x ∷ []) ≡ length xs + 1
length-push xs x = length-append xs (x ∷ [])

-- a filter leaves no more
pub length-filter_le : {X : Type 0} (test : X → Bool) (xs : List X) → length (filter test xs) ≤ length xs
length-filter_le test xs = omega (arith, length-filter_both test (λ x. not (test x)) (λ x. refl) xs)

-- what stands within a list is there
pub get-within : {X : Type 0} (xs : List X) (k : ℕ) → k < length xs → (x : X) × (slice_get xs k ≡ Some x)
get-within [] k within = absurd (omega (arith, within))
get-within (x ∷ xs) zero within = (x, refl)
get-within (x ∷ xs) (suc k) within = get-within xs k (omega (arith, within))

-- zeros have zeros everywhere
pub zeros-at : (n i : ℕ) → slice_index_or {A = ℕ} (replicate n 0) i 0 ≡ 0
zeros-at zero i = refl
zeros-at (suc n) zero = refl
zeros-at (suc n) (suc i) = zeros-at n i
