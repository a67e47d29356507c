-- Rising lists of numbers: a list's numbers stand in one rising order.
use Rattle.std.proofs.Common.{◌≡◌, ℕ, ◌<◌, ◌≤◌, ◌==◌, true, false, nat_lt, List, [], ◌∷◌, Option, Some, None, count_by, refl, sym, ap, subst, ◌∙◌, arith}
use Rattle.std.proofs.lemmas.Bool.Decides.{nat_tests}
use Rattle.page_cache.specs.Numbers.{lesser, least, placed, rising}
use Rattle.uid_names.proofs.ListLemmas.{by_cases, count_by-cons, count_by-cons_passes, count_by-cons_fails}

-- the numbers do not fall, and none is below n
abbrev pub IsFrom : ℕ → List ℕ → Type 0
IsFrom n [] = Unit {0}
IsFrom n (x ∷ xs) = (n ≤ x) × IsFrom x xs

-- how often a number stands in a list
abbrev pub copies : ℕ → List ℕ → ℕ
copies k xs = count_by (λ x. x == k) xs

-- one copy more of the number that is placed
copies-placed : (n k : ℕ) (xs : List ℕ) → copies n (placed k xs) ≡ copies n (k ∷ xs)
copies-placed n k [] = refl
copies-placed n k (x ∷ xs) =
    by_cases
    (nat_lt x k)
    (copies n (placed k (x ∷ xs)) ≡ copies n (k ∷ x ∷ xs))
    (λ is. rw is (omega (
      arith,
      copies-placed n k xs,
      count_by-cons (λ y. y == n) x (placed k xs),
      count_by-cons (λ y. y == n) k xs,
      count_by-cons (λ y. y == n) k (x ∷ xs),
      count_by-cons (λ y. y == n) x xs,
    )))
    (λ is. rw is refl)

-- as many copies of each number
pub copies-rising : (n : ℕ) (xs : List ℕ) → copies n (rising xs) ≡ copies n xs
copies-rising n [] = refl
copies-rising n (k ∷ xs) = omega (arith, copies-placed n k (rising xs), copies-rising n xs, count_by-cons (λ y. y == n) k (rising xs), count_by-cons (λ y. y == n) k xs)

-- a number in its place leaves them so
IsFrom-placed : (n k : ℕ) (xs : List ℕ) → n ≤ k → IsFrom n xs → IsFrom n (placed k xs)
IsFrom-placed n k [] le from = (le, tt)
IsFrom-placed n k (x ∷ xs) le from =
    by_cases
    (nat_lt x k)
    (IsFrom n (placed k (x ∷ xs)))
    (λ is. let below : x ≤ k = grind (arith, nat_tests) in rw is (from.0, IsFrom-placed x k xs below from.1))
    (λ is. let above : k ≤ x = grind (arith, nat_tests) in rw is (le, (above, from.1)))

-- so are the numbers that were brought to rise
pub IsFrom-rising : (xs : List ℕ) → IsFrom 0 (rising xs)
IsFrom-rising [] = tt
IsFrom-rising (k ∷ xs) = IsFrom-placed 0 k (rising xs) (omega arith) (IsFrom-rising xs)

-- no number stands in a list that begins above it
copies-below : (n k : ℕ) (xs : List ℕ) → IsFrom n xs → k < n → copies k xs ≡ 0
copies-below n k [] from lt = refl
copies-below n k (x ∷ xs) from lt =
    let none : (x == k) ≡ false = grind (arith, nat_tests, from.0) in
    count_by-cons_fails (λ y. y == k) x xs none ∙ copies-below x k xs from.1 (omega (arith, from.0))

-- a head stands in its list
stands : (x : ℕ) (xs : List ℕ) → 0 < copies x (x ∷ xs)
stands x xs = let is : (x == x) ≡ true = grind (arith, nat_tests) in omega (arith, count_by-cons_passes (λ y. y == x) x xs is)

-- the head of such a list is not above a number that stands in it
head_below : (x y : ℕ) (xs ys : List ℕ) → IsFrom y ys → copies x (x ∷ xs) ≡ copies x (y ∷ ys) → y ≤ x
head_below x y xs ys from same =
    by_cases
    (nat_lt x y)
    (y ≤ x)
    (λ is. let lt : x < y = grind (arith, nat_tests) in absurd (omega (arith, copies-below y x (y ∷ ys) (omega arith, from) lt, stands x xs)))
    (λ is. grind (arith, nat_tests))

-- behind one head the copies are the same
same_tails : (x : ℕ) (xs ys : List ℕ) → ((k : ℕ) → copies k (x ∷ xs) ≡ copies k (x ∷ ys)) → (k : ℕ) → copies k xs ≡ copies k ys
same_tails x xs ys same k = omega (arith, same k, count_by-cons (λ z. z == k) x xs, count_by-cons (λ z. z == k) x ys)

-- two lists that do not fall and have each number as often are one
pub same_from_copies : (n : ℕ) (xs ys : List ℕ) → IsFrom n xs → IsFrom n ys → ((k : ℕ) → copies k xs ≡ copies k ys) → xs ≡ ys
same_from_copies n [] [] xfrom yfrom same = refl
same_from_copies n [] (y ∷ ys) xfrom yfrom same = absurd (omega (arith, same y, stands y ys))
same_from_copies n (x ∷ xs) [] xfrom yfrom same = absurd (omega (arith, same x, stands x xs))
same_from_copies n (x ∷ xs) (y ∷ ys) xfrom yfrom same =
    let heads : x ≡ y = omega (arith, head_below x y xs ys yfrom.1 (same x), head_below y x ys xs xfrom.1 (sym (same y))) in
    let tails : IsFrom x ys → ((k : ℕ) → copies k (x ∷ xs) ≡ copies k (x ∷ ys)) → xs ≡ ys =
    λ from all. same_from_copies x xs ys xfrom.1 from (same_tails x xs ys all) in
    let P : ℕ → Type 0 = λ z. IsFrom z ys → ((k : ℕ) → copies k (x ∷ xs) ≡ copies k (z ∷ ys)) → x ∷ xs ≡ z ∷ ys in
    subst P heads (λ from all. ap (λ zs. x ∷ zs) (tails from all)) yfrom.1 same

-- rising numbers that stand as often as some others are those, brought to rise
pub rising-same : (xs ys : List ℕ) → IsFrom 0 ys → ((k : ℕ) → copies k ys ≡ copies k xs) → ys ≡ rising xs
rising-same xs ys up same = same_from_copies 0 ys (rising xs) up (IsFrom-rising xs) (λ k. same k ∙ sym (copies-rising k xs))

-- the order of comparing does not matter
lesser-swapped : (a b : ℕ) (o : Option ℕ) → lesser (Some a) (lesser (Some b) o) ≡ lesser (Some b) (lesser (Some a) o)
lesser-swapped a b None = ap Some (omega arith)
lesser-swapped a b (Some c) = ap Some (omega arith)

-- the least of numbers, one of which is in its place
least-placed : (k : ℕ) (xs : List ℕ) → least (placed k xs) ≡ lesser (Some k) (least xs)
least-placed k [] = refl
least-placed k (x ∷ xs) =
    by_cases
    (nat_lt x k)
    (least (placed k (x ∷ xs)) ≡ lesser (Some k) (least (x ∷ xs)))
    (λ is. rw is (ap (lesser (Some x)) (least-placed k xs) ∙ lesser-swapped x k (least xs)))
    (λ is. rw is refl)

-- the least of numbers that were brought to rise
least-rising : (xs : List ℕ) → least (rising xs) ≡ least xs
least-rising [] = refl
least-rising (k ∷ ks) = least-placed k (rising ks) ∙ ap (lesser (Some k)) (least-rising ks)

-- two lists that have each number as often have one least number
pub least-same : (xs ys : List ℕ) → ((k : ℕ) → copies k xs ≡ copies k ys) → least xs ≡ least ys
least-same xs ys same =
    sym (least-rising xs)
    ∙ ap least (same_from_copies 0 (rising xs) (rising ys) (IsFrom-rising xs) (IsFrom-rising ys) (λ k. copies-rising k xs ∙ same k ∙ sym (copies-rising k ys)))
    ∙ least-rising ys

-- the least of numbers that do not fall is the first
pub least-from : (x : ℕ) (xs : List ℕ) → IsFrom x xs → least (x ∷ xs) ≡ Some x
least-from x [] from = refl
least-from x (y ∷ ys) from = let above : x ≤ y = from.0 in ap (lesser (Some x)) (least-from y ys from.1) ∙ ap Some (omega arith)
