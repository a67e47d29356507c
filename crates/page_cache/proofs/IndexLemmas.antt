-- The part of the index that an object's pages are, in the order of their numbers.
use Rattle.std.proofs.Common.{◌≡◌, ℕ, ◌<◌, ◌≤◌, ◌==◌, Bool, true, false, ◌&&◌, List, [], ◌∷◌, map, filter, length, Option, Some, None, IsSome, count_by, refl, sym, ap, ◌∙◌, arith}
use Rattle.std.proofs.lemmas.Bool.Decides.{nat_tests}
use Rattle.std.proofs.lemmas.List.Elements.{All-head, filter_passes}
use Rattle.std.proofs.lemmas.List.Sums.{length-filter}
use Rattle.std.proofs.lemmas.Map.Keys.{sorted_head, sorted_tail}
use Rattle.std.specs.List.{find, AllByRecursion}
use Rattle.std.specs.List.Sorted.{IsStrictlySortedBy}
use Rattle.std.specs.Map.{keys_of}
use Rattle.std.specs.declared.cmp.Ordering.TheVariants.{Less}
use Rattle.uid_names.specs.Names.{ObjectName, same_uid}
use Rattle.uid_names.proofs.ListLemmas.{by_cases, count_by-cons, count_by-cons_passes, count_by-cons_fails, count_by-none, find-count_none, count_by-filter-le, count_by-map, filter-map}
use Rattle.page_frames.specs.Pools.{Pool, frame_in}
use Rattle.page_cache.specs.declared.slots.PageName.{PageName}
use Rattle.page_cache.specs.Caches.{Resident, IsResident, is_of, is_page}
use Rattle.page_cache.specs.Numbers.{numbers, is_dirty_of, least}
use Rattle.page_cache.specs.Insides.{Slot, name_cmp, is_between, is_beyond, slot_is, seen, IsIndex}
use Rattle.page_cache.proofs.SlotLemmas.{count_by-filter}
use Rattle.page_cache.proofs.NumberLemmas.{IsFrom, copies, least-from}

-- a name between the two is of the object
pub between-same_uid : (uid : ObjectName) (n : PageName) → is_between uid n ≡ true → same_uid n.uid uid ≡ true
between-same_uid uid n is = grind (arith, nat_tests)

-- and each name of the object is between them
pub same_uid-between : (uid : ObjectName) (n : PageName) → n.page < 4294967296 → same_uid n.uid uid ≡ true → is_between uid n ≡ true
same_uid-between uid n fits is = grind (arith, nat_tests)

-- of two names of one object the later has the greater number
pub later_page : (a b : PageName) → same_uid a.uid b.uid ≡ true → name_cmp a b ≡ Less → a.page < b.page
later_page a b same less = grind (arith, nat_tests)

-- the number of a slot's page
abbrev pub page_of : Slot → ℕ
page_of s = s.0.page

-- the slots of the index between the two names
abbrev pub part_of : ObjectName → List Slot → List Slot
part_of uid index = filter (λ s. is_between uid s.0) index

-- tests that are alike where page numbers are in their range are passed as often
count_by-alike : (p q : Slot → Bool) → ((s : Slot) → is_beyond s ≡ false → p s ≡ q s) → (slots : List Slot) → count_by is_beyond slots ≡ 0 → count_by p slots ≡ count_by q slots
count_by-alike p q alike [] none = refl
count_by-alike p q alike (s ∷ slots) none =
    by_cases
    (is_beyond s)
    (count_by p (s ∷ slots) ≡ count_by q (s ∷ slots))
    (λ is. absurd (omega (arith, count_by-cons_passes is_beyond s slots is)))
    (λ is.
    let here : p s ≡ q s = alike s is in
    let later : count_by p slots ≡ count_by q slots = count_by-alike p q alike slots (omega (arith, count_by-cons_fails is_beyond s slots is)) in
    count_by-cons p s slots ∙ rw (here, later) (sym (count_by-cons q s slots)))

-- such a slot is between the two names where it is of the object
between-is : (uid : ObjectName) (s : Slot) → is_beyond s ≡ false → is_between uid s.0 ≡ same_uid s.0.uid uid
between-is uid s fits =
    by_cases
    (same_uid s.0.uid uid)
    (is_between uid s.0 ≡ same_uid s.0.uid uid)
    (λ is. same_uid-between uid s.0 (grind (arith, nat_tests)) is ∙ sym is)
    (λ is.
    by_cases
    (is_between uid s.0)
    (is_between uid s.0 ≡ same_uid s.0.uid uid)
    (λ within. within ∙ sym (between-same_uid uid s.0 within))
    (λ outside. outside ∙ sym is))

-- what is counted is found
some_found : {X : Type 0} (p : X → Bool) (xs : List X) → 0 < count_by p xs → IsSome (find p xs)
some_found {X = X} p xs some = by_answer (find p xs) refl
  where
    by_answer : (o : Option X) → find p xs ≡ o → IsSome o
    by_answer None none = absurd (omega (arith, count_by-none p xs none))
    by_answer (Some x) found = refl

-- the first that a filter leaves passes
filter-first : (p : Slot → Bool) (slots : List Slot) (s : Slot) (rest : List Slot) → filter p slots ≡ s ∷ rest → p s ≡ true
filter-first p slots s rest is = let passes = filter_passes p slots in All-head (λ x. p x ≡ true) s rest (rw is at passes)

-- numbers that are not below one are not below a lesser one
pub IsFrom-lower : (m n : ℕ) (xs : List ℕ) → n ≤ m → IsFrom m xs → IsFrom n xs
IsFrom-lower m n [] le from = tt
IsFrom-lower m n (x ∷ xs) le from = let above : m ≤ x = from.0 in (omega arith, from.1)

-- how often a number stands among those of some slots
copies-pages : (k : ℕ) (p : Slot → Bool) (slots : List Slot) → copies k (map page_of (filter p slots)) ≡ count_by (λ s. p s && (s.0.page == k)) slots
copies-pages k p slots = count_by-map page_of (λ x. x == k) (filter p slots) ∙ count_by-filter (λ s. s.0.page == k) p slots

-- the numbers of the pages that pass a test are those of their slots
pub numbers-seen : (pool : Pool) (test : Resident → Bool) (slots : List Slot) → map page_of (filter (λ s. test (seen pool s)) slots) ≡ numbers test (map (seen pool) slots)
numbers-seen pool test slots = pages_seen (filter (λ s. test (seen pool s)) slots) ∙ ap (map (λ r. r.page)) (sym (filter-map (seen pool) test slots))
  where
    pages_seen : (ss : List Slot) → map page_of ss ≡ map (λ r. r.page) (map (seen pool) ss)
    pages_seen [] = refl
    pages_seen (s ∷ ss) = ap (λ ks. s.0.page ∷ ks) (pages_seen ss)

module _ (pool : Pool) (index slots : List Slot) (same : IsIndex index slots) (numbered : count_by is_beyond slots ≡ 0) (uid : ObjectName) where
  -- each number stands as often in the object's part of the index as among its resident pages
  pub copies-part_of : (k : ℕ) → copies k (map page_of (part_of uid index)) ≡ copies k (numbers (is_of uid) (map (seen pool) slots))
  copies-part_of k =
      copies-pages k (λ s. is_between uid s.0) index ∙ same (λ s. is_between uid s.0 && (s.0.page == k))
      ∙ count_by-alike (λ s. is_between uid s.0 && (s.0.page == k)) (λ s. same_uid s.0.uid uid && (s.0.page == k)) (λ s fits. ap (λ b. b && (s.0.page == k)) (between-is uid s fits)) slots numbered
      ∙ sym (copies-pages k (λ s. same_uid s.0.uid uid) slots) ∙ ap (copies k) (numbers-seen pool (is_of uid) slots)

  -- so it does of the dirty ones
  pub copies-dirty : (k : ℕ) → copies k (map page_of (filter (λ s. (frame_in pool s.1).flags.dirty) (part_of uid index))) ≡ copies k (numbers (is_dirty_of uid) (map (seen pool) slots))
  copies-dirty k =
      copies-pages k dirty (part_of uid index) ∙ count_by-filter (λ s. dirty s && (s.0.page == k)) (λ s. is_between uid s.0) index ∙ same (λ s. is_between uid s.0 && (dirty s && (s.0.page == k)))
      ∙ count_by-alike (λ s. is_between uid s.0 && (dirty s && (s.0.page == k))) (λ s. (same_uid s.0.uid uid && dirty s) && (s.0.page == k)) (λ s fits. ap (λ b. b && (dirty s && (s.0.page == k))) (between-is uid s fits) ∙ grouped (same_uid s.0.uid uid) (dirty s) (s.0.page == k)) slots numbered
      ∙ sym (copies-pages k (λ s. same_uid s.0.uid uid && dirty s) slots) ∙ ap (copies k) (numbers-seen pool (is_dirty_of uid) slots)
    where
      dirty : Slot → Bool
      dirty s = (frame_in pool s.1).flags.dirty

      grouped : (a b c : Bool) → (a && (b && c)) ≡ ((a && b) && c)
      grouped true b c = refl
      grouped false b c = refl

  -- where the part is empty the object has no page
  pub none-part_of : part_of uid index ≡ [] → find (is_of uid) (map (seen pool) slots) ≡ None
  none-part_of empty =
      let none : count_by (λ s. is_between uid s.0) index ≡ 0 = sym (length-filter (λ s. is_between uid s.0) index) ∙ ap length empty in
      let outside : count_by (λ s. same_uid s.0.uid uid) slots ≡ 0 =
      sym (count_by-alike (λ s. is_between uid s.0) (λ s. same_uid s.0.uid uid) (between-is uid) slots numbered) ∙ sym (same (λ s. is_between uid s.0)) ∙ none in
      find-count_none (is_of uid) (map (seen pool) slots) (count_by-map (seen pool) (is_of uid) slots ∙ outside)

  -- the page of a slot that stands there is resident
  pub IsResident-part_of : (s : Slot) (rest : List Slot) → part_of uid index ≡ s ∷ rest → IsResident (map (seen pool) slots) uid s.0.page
  IsResident-part_of s rest is =
      let q : Slot → Bool = λ x. is_between uid x.0 in
      let passes : slot_is uid s.0.page s ≡ true = let there : is_between uid s.0 ≡ true = filter-first q index s rest is in let own = between-same_uid uid s.0 there in rw own (grind (arith, nat_tests)) in
      let counted : 0 < count_by (slot_is uid s.0.page) (part_of uid index) = rw is (omega (arith, count_by-cons_passes (slot_is uid s.0.page) s rest passes)) in
      let some : 0 < count_by (slot_is uid s.0.page) slots = omega (arith, count_by-filter-le (slot_is uid s.0.page) q index, same (slot_is uid s.0.page)) in
      some_found (is_page uid s.0.page) (map (seen pool) slots) (rw (count_by-map (seen pool) (is_page uid s.0.page) slots) some)

-- the numbers of the part of an object do not fall
module _ (uid : ObjectName) where
  from_below : (a : PageName) (index : List Slot) → same_uid a.uid uid ≡ true → AllByRecursion (λ b. name_cmp a b ≡ Less) (keys_of index) → IsStrictlySortedBy name_cmp (keys_of index)
      → IsFrom a.page (map page_of (part_of uid index))
  from_below a [] own below sorted = tt
  from_below a (s ∷ index) own below sorted =
      by_cases
      (is_between uid s.0)
      (IsFrom a.page (map page_of (part_of uid (s ∷ index))))
      (λ is.
      let same : same_uid s.0.uid uid ≡ true = between-same_uid uid s.0 is in
      let alike : same_uid a.uid s.0.uid ≡ true = grind (arith, nat_tests) in
      rw is (omega (arith, later_page a s.0 alike below.0), from_below s.0 index same (sorted_head name_cmp s.0 (keys_of index) sorted) (sorted_tail name_cmp s.0 (keys_of index) sorted)))
      (λ is. rw is (from_below a index own below.1 (sorted_tail name_cmp s.0 (keys_of index) sorted)))

  pub IsFrom-part_of : (index : List Slot) → IsStrictlySortedBy name_cmp (keys_of index) → IsFrom 0 (map page_of (part_of uid index))
  IsFrom-part_of [] sorted = tt
  IsFrom-part_of (s ∷ index) sorted =
      by_cases
      (is_between uid s.0)
      (IsFrom 0 (map page_of (part_of uid (s ∷ index))))
      (λ is. rw is (omega arith, from_below s.0 index (between-same_uid uid s.0 is) (sorted_head name_cmp s.0 (keys_of index) sorted) (sorted_tail name_cmp s.0 (keys_of index) sorted)))
      (λ is. rw is (IsFrom-part_of index (sorted_tail name_cmp s.0 (keys_of index) sorted)))

-- a filter leaves numbers that do not fall
pub IsFrom-filter : (n : ℕ) (p : Slot → Bool) (slots : List Slot) → IsFrom n (map page_of slots) → IsFrom n (map page_of (filter p slots))
IsFrom-filter n p [] from = tt
IsFrom-filter n p (s ∷ slots) from =
    by_cases
    (p s)
    (IsFrom n (map page_of (filter p (s ∷ slots))))
    (λ is. rw is (from.0, IsFrom-filter s.0.page p slots from.1))
    (λ is. rw is (IsFrom-filter n p slots (IsFrom-lower s.0.page n (map page_of slots) (let le : n ≤ s.0.page = from.0 in le) from.1)))

-- the least number of the dirty pages among slots whose numbers do not fall
module _ (pool : Pool) (all rest : List Slot) (s : Slot) (is : all ≡ s ∷ rest) where
  abbrev pub least_dirty : List Slot → Option ℕ
  least_dirty slots = least (map page_of (filter (λ x. (frame_in pool x.1).flags.dirty) slots))

  -- is that of the first slot, where its page is dirty
  pub least_dirty-first : (frame_in pool s.1).flags.dirty ≡ true → IsFrom 0 (map page_of all) → least_dirty all ≡ Some s.0.page
  least_dirty-first dirty rising =
      let from : IsFrom s.0.page (map page_of rest) = (rw is at rising).1 in
      rw (is, dirty) (least-from s.0.page (map page_of (filter (λ x. (frame_in pool x.1).flags.dirty) rest)) (IsFrom-filter s.0.page (λ x. (frame_in pool x.1).flags.dirty) rest from))

  -- and else it is behind it
  pub least_dirty-behind : (frame_in pool s.1).flags.dirty ≡ false → least_dirty all ≡ least_dirty rest
  least_dirty-behind clean = rw (is, clean) refl

  -- the numbers behind it do not fall either
  pub IsFrom-behind : IsFrom 0 (map page_of all) → IsFrom 0 (map page_of rest)
  IsFrom-behind rising = IsFrom-lower s.0.page 0 (map page_of rest) (omega arith) (rw is at rising).1
