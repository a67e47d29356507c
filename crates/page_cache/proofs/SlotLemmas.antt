-- Lemmas on slots by the names of their pages and by their frames, and on what each of the two collections of them does.
use Rattle.std.proofs.Common.{◌≡◌, ℕ, ◌-◌, ◌<◌, ◌≤◌, ◌==◌, Bool, true, false, not, ◌&&◌, cond, List, [], ◌∷◌, filter, take, length, Some, None, count_by, refl, sym, ap, ◌∙◌, arith}
use Rattle.std.proofs.lemmas.Bool.Decides.{nat_tests}
use Rattle.std.proofs.lemmas.List.{take_all}
use Rattle.std.specs.List.{find}
use Rattle.std.specs.Option.{option_map, option_map_or}
use Rattle.std.specs.Cmp.{nat_eq_equiv, both_tied, unsigned_ties}
use Rattle.std.specs.Ordering.{nat_cmp, is_eq, match_ordering}
use Rattle.std.specs.declared.cmp.Ordering.{Ordering}
use Rattle.std.specs.declared.cmp.Ordering.TheVariants.{Less, Equal, Greater}
use Rattle.std.specs.Map.{lookup, lookup_entry, remove_entry}
use Rattle.std.specs.BTreeMap.{insert_entry, is_at}
use Rattle.lru.specs.LruCache.{lru_cache, promoted, put_entries}
use Rattle.uid_names.specs.Names.{ObjectName, same_uid}
use Rattle.uid_names.proofs.Orders.{same_uid_is}
use Rattle.uid_names.proofs.ListLemmas.{by_cases, find-count_none, count_by-none, count_by-cons, count_by-cons_passes, count_by-cons_fails, filter_not-none}
use Rattle.page_cache.specs.declared.slots.PageName.{PageName}
use Rattle.page_cache.specs.Insides.{Slot, same_name, name_cmp, slot_is, IsIndex}

-- a slot is of the page that a test finds it to be of
pub slot_is-uid : (uid : ObjectName) (page : ℕ) (s : Slot) → slot_is uid page s ≡ true → s.0.uid ≡ uid
slot_is-uid uid page s is = same_uid_is s.0.uid uid (grind (arith, nat_tests))

-- and of that number
pub slot_is-page : (uid : ObjectName) (page : ℕ) (s : Slot) → slot_is uid page s ≡ true → s.0.page ≡ page
slot_is-page uid page s is = grind (arith, nat_tests)

-- whether a name is this one
abbrev pub name_is : PageName → PageName → Bool
name_is name n = same_uid n.uid name.uid && (n.page == name.page)

-- it does not matter which of the two is asked
pub same_name-is : (name : PageName) → same_name name ≡ name_is name
same_name-is name =
    λ i n. ((nat_eq_equiv.symm name.uid.counter n.uid.counter i) && (nat_eq_equiv.symm name.uid.home n.uid.home i)) && nat_eq_equiv.symm name.page n.page i

-- names tie where they are one
tied : (name n : PageName) → same_name name n ≡ is_at (name_cmp name) n
tied name n =
    both_tied (same_uid name.uid n.uid) (name.page == n.page) _ (nat_cmp name.page n.page)
    (both_tied (name.uid.counter == n.uid.counter) (name.uid.home == n.uid.home) (nat_cmp name.uid.counter n.uid.counter) (nat_cmp name.uid.home n.uid.home) (unsigned_ties name.uid.counter n.uid.counter) (unsigned_ties name.uid.home n.uid.home))
    (unsigned_ties name.page n.page)

-- so the order finds the same name
pub is_at-is : (name : PageName) → is_at (name_cmp name) ≡ name_is name
is_at-is name = λ i n. (sym (tied name n) ∙ (λ j. same_name-is name j n)) i

-- two names of one page are equal
pub same_name-true : (a b : PageName) → same_name a b ≡ true → a ≡ b
same_name-true a b is =
    let uid : a.uid ≡ b.uid = same_uid_is a.uid b.uid (grind (arith, nat_tests)) in
    let page : a.page ≡ b.page = grind (arith, nat_tests) in
    λ i. record { uid = uid i; page = page i }

-- a name is its own
pub same_name-self : (a : PageName) → same_name a a ≡ true
same_name-self a = grind (arith, nat_tests)

module _ (test : PageName → Bool) where
  -- a look-up finds the frame of the first slot whose name passes
  pub lookup-slots : (slots : List Slot) → lookup test slots ≡ option_map (λ s. s.1) (find (λ s. test s.0) slots)
  lookup-slots [] = refl
  lookup-slots (s ∷ slots) = by_test (test s.0) (lookup-slots slots)
    where
      by_test : (b : Bool) → lookup test slots ≡ option_map (λ x. x.1) (find (λ x. test x.0) slots)
          → cond b (Some s.1) (lookup test slots) ≡ option_map (λ x. x.1) (cond b (Some s) (find (λ x. test x.0) slots))
      by_test true later = refl
      by_test false later = later

  -- and that slot
  pub lookup_entry-slots : (slots : List Slot) → lookup_entry test slots ≡ find (λ s. test s.0) slots
  lookup_entry-slots [] = refl
  lookup_entry-slots (s ∷ slots) = ap (cond (test s.0) (Some s)) (lookup_entry-slots slots)

  -- to take it out leaves the others
  pub remove_entry-slots : (slots : List Slot) → count_by (λ s. test s.0) slots ≤ 1 → remove_entry test slots ≡ filter (λ s. not (test s.0)) slots
  remove_entry-slots [] once = refl
  remove_entry-slots (s ∷ slots) once =
      by_cases
      (test s.0)
      (remove_entry test (s ∷ slots) ≡ filter (λ x. not (test x.0)) (s ∷ slots))
      (λ is. rw is (sym (filter_not-none (λ x. test x.0) slots (omega (arith, count_by-cons_passes (λ x. test x.0) s slots is)))))
      (λ is. rw is (ap (λ xs. s ∷ xs) (remove_entry-slots slots (omega (arith, count_by-cons_fails (λ x. test x.0) s slots is)))))

module _ (name : PageName) (slots : List Slot) where
  -- the order finds a page's frame
  pub lookup-page : lookup (same_name name) slots ≡ option_map (λ s. s.1) (find (slot_is name.uid name.page) slots)
  lookup-page = ap (λ t. lookup t slots) (same_name-is name) ∙ lookup-slots (name_is name) slots

  -- a page that is used comes to the front
  pub promoted-page : (s : Slot) → find (slot_is name.uid name.page) slots ≡ Some s → count_by (slot_is name.uid name.page) slots ≤ 1
      → promoted (same_name name) slots ≡ s ∷ filter (λ x. not (slot_is name.uid name.page x)) slots
  promoted-page s found once =
      ap (λ t. promoted t slots) (same_name-is name)
      ∙ rw (lookup_entry-slots (name_is name) slots, found, remove_entry-slots (name_is name) slots once) refl

  -- nothing comes where the page has no slot
  pub promoted-absent : find (slot_is name.uid name.page) slots ≡ None → promoted (same_name name) slots ≡ slots
  promoted-absent none = ap (λ t. promoted t slots) (same_name-is name) ∙ rw (lookup_entry-slots (name_is name) slots, none) refl

  -- a page is taken out of the order
  pub remove_entry-page : count_by (slot_is name.uid name.page) slots ≤ 1 → remove_entry (same_name name) slots ≡ filter (λ x. not (slot_is name.uid name.page x)) slots
  remove_entry-page once = ap (λ t. remove_entry t slots) (same_name-is name) ∙ remove_entry-slots (name_is name) slots once

  -- and of the index
  pub remove_entry-index : count_by (slot_is name.uid name.page) slots ≤ 1 → remove_entry (is_at (name_cmp name)) slots ≡ filter (λ x. not (slot_is name.uid name.page x)) slots
  remove_entry-index once = ap (λ t. remove_entry t slots) (is_at-is name) ∙ remove_entry-slots (name_is name) slots once

  -- a page without a slot is put in front, where there is room
  pub put_entries-absent : (room frame : ℕ) → find (slot_is name.uid name.page) slots ≡ None → length slots < room
      → put_entries same_name (lru_cache slots room) name frame ≡ (name, frame) ∷ slots
  put_entries-absent room frame none lt =
      ap (λ (t : PageName → Bool). option_map_or (λ e. (e.0, frame) ∷ remove_entry t slots) (lookup_entry t slots) ((name, frame) ∷ take (room - 1) slots)) (same_name-is name)
      ∙ rw (lookup_entry-slots (name_is name) slots, none, take_all (room - 1) slots (omega arith)) refl

  -- what was put last is taken out again
  pub remove_entry-front : (frame : ℕ) → remove_entry (same_name name) ((name, frame) ∷ slots) ≡ slots
  remove_entry-front frame = rw (same_name-self name) refl

-- a new name goes into the index, somewhere
pub count_by-insert_entry : (test : Slot → Bool) (name : PageName) (frame : ℕ) (index : List Slot) → lookup (is_at (name_cmp name)) index ≡ None
    → count_by test (insert_entry name_cmp index name frame) ≡ count_by test ((name, frame) ∷ index)
count_by-insert_entry test name frame [] none = refl
count_by-insert_entry test name frame (s ∷ index) none = by_order (name_cmp name s.0) none (count_by-insert_entry test name frame index)
  where
    by_order : (o : Ordering) → cond (is_eq o) (Some s.1) (lookup (is_at (name_cmp name)) index) ≡ None
        → (lookup (is_at (name_cmp name)) index ≡ None → count_by test (insert_entry name_cmp index name frame) ≡ count_by test ((name, frame) ∷ index))
        → count_by test (match_ordering o ((name, frame) ∷ s ∷ index) ((s.0, frame) ∷ index) (s ∷ insert_entry name_cmp index name frame)) ≡ count_by test ((name, frame) ∷ s ∷ index)
    by_order Less absent later = refl
    by_order Equal absent later = absurd (cc)
    by_order Greater absent later =
        omega (
          arith,
          later absent,
          count_by-cons test s (insert_entry name_cmp index name frame),
          count_by-cons test (name, frame) index,
          count_by-cons test (name, frame) (s ∷ index),
          count_by-cons test s index,
        )

-- as many pass two tests as pass the one behind the other
pub count_by-filter : {X : Type 0} (p q : X → Bool) (xs : List X) → count_by p (filter q xs) ≡ count_by (λ x. q x && p x) xs
count_by-filter p q [] = refl
count_by-filter p q (x ∷ xs) = by_test (q x) refl (count_by-filter p q xs)
  where
    by_test : (b : Bool) → q x ≡ b → count_by p (filter q xs) ≡ count_by (λ y. q y && p y) xs → count_by p (cond b (x ∷ filter q xs) (filter q xs)) ≡ count_by (λ y. q y && p y) (x ∷ xs)
    by_test true is later = count_by-cons p x (filter q xs) ∙ rw (later, count_by-cons (λ y. q y && p y) x xs, is) refl
    by_test false is later = later ∙ rw (count_by-cons (λ y. q y && p y) x xs, is) (omega arith)

-- the index still has the same slots
module _ (index slots : List Slot) (same : IsIndex index slots) where
  -- with one more
  pub IsIndex-entered : (name : PageName) (frame : ℕ) → find (slot_is name.uid name.page) slots ≡ None → IsIndex (insert_entry name_cmp index name frame) ((name, frame) ∷ slots)
  IsIndex-entered name frame none test =
      let nowhere : count_by (slot_is name.uid name.page) index ≡ 0 = same (slot_is name.uid name.page) ∙ count_by-none (slot_is name.uid name.page) slots none in
      let absent : lookup (is_at (name_cmp name)) index ≡ None =
      ap (λ t. lookup t index) (is_at-is name) ∙ lookup-slots (name_is name) index ∙ ap (option_map (λ s. s.1)) (find-count_none (slot_is name.uid name.page) index nowhere) in
      count_by-insert_entry test name frame index absent ∙ omega (arith, same test, count_by-cons test (name, frame) index, count_by-cons test (name, frame) slots)

  -- without those of one test
  pub IsIndex-filter : (q : Slot → Bool) → IsIndex (filter q index) (filter q slots)
  IsIndex-filter q test = count_by-filter test q index ∙ same (λ s. q s && test s) ∙ sym (count_by-filter test q slots)

-- no slot is of two pages
pub slot_is-apart : (a b : PageName) (s : Slot) → same_name a b ≡ false → slot_is b.uid b.page s ≡ true → slot_is a.uid a.page s ≡ false
slot_is-apart a b s differ is =
    by_cases
    (slot_is a.uid a.page s)
    (slot_is a.uid a.page s ≡ false)
    (λ both.
    let uid : a.uid ≡ b.uid = sym (slot_is-uid a.uid a.page s both) ∙ slot_is-uid b.uid b.page s is in
    let page : a.page ≡ b.page = sym (slot_is-page a.uid a.page s both) ∙ slot_is-page b.uid b.page s is in
    let same : same_name a b ≡ true = rw (uid, page) (grind (arith, nat_tests)) in
    absurd (cc))
    (λ apart. apart)
