-- Lemmas on resident pages: what is found after a change, and how many pass a test.
use Rattle.std.proofs.Common.{◌≡◌, ℕ, ◌≤◌, Bool, true, false, List, [], ◌∷◌, Option, Some, None, count_by, refl, sym, ap, ◌∙◌, arith}
use Rattle.std.specs.Prelude.{◌==◌, not, ◌&&◌}
use Rattle.std.specs.List.{find}
use Rattle.std.specs.Option.{option_map}
use Rattle.std.proofs.lemmas.Bool.Decides.{nat_tests}
use Rattle.uid_names.specs.Names.{ObjectName, same_uid}
use Rattle.page_cache.specs.Caches.{Resident, is_of, is_page, page_at}
use Rattle.page_cache.specs.Changes.{changed_if, without_page, without_object, used, with_front}
use Rattle.uid_names.proofs.Finds.{find-passes}
use Rattle.uid_names.proofs.ListLemmas.{by_cases, count_by-cons_passes, count_by-cons_fails, find-count_none, count_by-none, filter_not-none, count_by-filter_takes, find-filter_leaves, count_by-to_front, find-map, count_by-map}
use Rattle.uid_names.proofs.Orders.{same_uid_is}
use Rattle.fault_handler.specs.ShownPages.{changed_page}

-- whether two names are of one page
abbrev pub is_same : ObjectName → ℕ → ObjectName → ℕ → Bool
is_same u k v j = same_uid u v && (k == j)

-- a page is once in the list
abbrev pub AreOnce : List Resident → Type 0
AreOnce pages = (u : ObjectName) (k : ℕ) → count_by (is_page u k) pages ≤ 1

-- names of one page are equal
pub same-uid : (u : ObjectName) (k : ℕ) (v : ObjectName) (j : ℕ) → is_same u k v j ≡ true → u ≡ v
same-uid u k v j is = same_uid_is u v (grind (arith, nat_tests))

pub same-page : (u : ObjectName) (k : ℕ) (v : ObjectName) (j : ℕ) → is_same u k v j ≡ true → k ≡ j
same-page u k v j is = grind (arith, nat_tests)

-- the page that is found has the name
pub found-uid : (pages : List Resident) (u : ObjectName) (k : ℕ) (r : Resident) → page_at pages u k ≡ Some r → r.uid ≡ u
found-uid pages u k r found = same-uid r.uid r.page u k (find-passes (is_page u k) pages r found)

pub found-page : (pages : List Resident) (u : ObjectName) (k : ℕ) (r : Resident) → page_at pages u k ≡ Some r → r.page ≡ k
found-page pages u k r found = same-page r.uid r.page u k (find-passes (is_page u k) pages r found)

-- what is of one page is not of another
pub apart : (u : ObjectName) (k : ℕ) (v : ObjectName) (j : ℕ) (r : Resident) → is_same v j u k ≡ false → is_page v j r ≡ true → is_page u k r ≡ false
apart u k v j r differ is = grind (arith, nat_tests, differ, is)

module _ (pages : List Resident) (u : ObjectName) (k : ℕ) where
  -- a page that was dropped is not found
  pub page_at-without_same : page_at (without_page pages u k) u k ≡ None
  page_at-without_same = find-count_none (is_page u k) (without_page pages u k) (count_by-filter_takes (is_page u k) (λ r. not (is_page u k r)) (λ r is. ap not is) pages)

  -- the others are found as before
  pub page_at-without_other : (v : ObjectName) (j : ℕ) → is_same v j u k ≡ false → page_at (without_page pages u k) v j ≡ page_at pages v j
  page_at-without_other v j differ = find-filter_leaves (is_page v j) (λ r. not (is_page u k r)) (λ r is. ap not (apart u k v j r differ is)) pages

  -- nothing goes where the page is not resident
  pub without_page-none : page_at pages u k ≡ None → without_page pages u k ≡ pages
  without_page-none none = filter_not-none (is_page u k) pages (count_by-none (is_page u k) pages none)

  -- the use of a page moves it, and nothing else
  pub page_at-used : (v : ObjectName) (j : ℕ) → page_at (used pages u k) v j ≡ page_at pages v j
  page_at-used v j = by_found (page_at pages u k) refl
    where
      by_found : (o : Option Resident) → page_at pages u k ≡ o → page_at (with_front o (without_page pages u k)) v j ≡ page_at pages v j
      by_found None none = rw (without_page-none none) refl
      by_found (Some s) found =
          by_cases
          (is_same v j u k)
          (page_at (s ∷ without_page pages u k) v j ≡ page_at pages v j)
          (λ is.
          let here : is_page u k s ≡ true = find-passes (is_page u k) pages s found in
          rw (same-uid v j u k is, same-page v j u k is, here) (sym found))
          (λ differ.
          let no : is_page v j s ≡ false = by_cases (is_page v j s) (is_page v j s ≡ false) (λ h. absurd (let a = apart u k v j s differ h in let b = find-passes (is_page u k) pages s found in cc)) (λ h. h) in
          rw no (page_at-without_other v j differ))

  -- as many pass
  pub count_by-used : AreOnce pages → (test : Resident → Bool) → count_by test (used pages u k) ≡ count_by test pages
  count_by-used once test = by_found (page_at pages u k) refl
    where
      by_found : (o : Option Resident) → page_at pages u k ≡ o → count_by test (with_front o (without_page pages u k)) ≡ count_by test pages
      by_found None none = ap (count_by test) (without_page-none none)
      by_found (Some s) found = count_by-to_front (is_page u k) test pages s found (once u k)

-- a page of an object is of the object
of_page : (u : ObjectName) (j : ℕ) (r : Resident) → is_page u j r ≡ true → is_of u r ≡ true
of_page u j r is = grind (arith, nat_tests, is)

-- and of no other
of_another : (u v : ObjectName) (j : ℕ) (r : Resident) → same_uid v u ≡ false → is_page v j r ≡ true → is_of u r ≡ false
of_another u v j r differ is = grind (arith, nat_tests, differ, is)

-- no page of the object is found where they were dropped
pub page_at-without_object_same : (pages : List Resident) (u : ObjectName) (j : ℕ) → page_at (without_object pages u) u j ≡ None
page_at-without_object_same pages u j =
    find-count_none (is_page u j) (without_object pages u) (count_by-filter_takes (is_page u j) (λ r. not (is_of u r)) (λ r is. ap not (of_page u j r is)) pages)

-- the pages of others are found as before
pub page_at-without_object_other : (pages : List Resident) (u v : ObjectName) (j : ℕ) → same_uid v u ≡ false → page_at (without_object pages u) v j ≡ page_at pages v j
page_at-without_object_other pages u v j differ = find-filter_leaves (is_page v j) (λ r. not (is_of u r)) (λ r is. ap not (of_another u v j r differ is)) pages

-- a page is changed in its place
module _ (u : ObjectName) (k : ℕ) (change : Resident → Resident) where
  abbrev changing : Resident → Resident
  changing r = changed_if (is_page u k r) change r

  -- nothing changes where the page is not resident
  pub changed_page-none : (pages : List Resident) → count_by (is_page u k) pages ≡ 0 → changed_page u k change pages ≡ pages
  changed_page-none [] none = refl
  changed_page-none (r ∷ pages) none =
      by_cases
      (is_page u k r)
      (changed_page u k change (r ∷ pages) ≡ r ∷ pages)
      (λ is. absurd (omega (arith, count_by-cons_passes (is_page u k) r pages is)))
      (λ is. rw (is, changed_page-none pages (omega (arith, count_by-cons_fails (is_page u k) r pages is))) refl)

  -- a test that says the same of the page before and after
  module _ (test : Resident → Bool) (same : (r : Resident) → test (change r) ≡ test r) where
    test-changing : (r : Resident) → test (changing r) ≡ test r
    test-changing r = by_cases (is_page u k r) (test (changing r) ≡ test r) (λ is. rw is (same r)) (λ is. rw is refl)

    pub count_by-changed : (pages : List Resident) → count_by test (changed_page u k change pages) ≡ count_by test pages
    count_by-changed pages = count_by-map changing test pages ∙ ap (λ t. count_by t pages) (λ i r. test-changing r i)

  -- a change that keeps names
  module _ (names : (v : ObjectName) (j : ℕ) (r : Resident) → is_page v j (change r) ≡ is_page v j r) where
    pub AreOnce-changed : (pages : List Resident) → AreOnce pages → AreOnce (changed_page u k change pages)
    AreOnce-changed pages once v j = rw (count_by-changed (is_page v j) (names v j) pages) (once v j)

    page_at-changed : (pages : List Resident) (v : ObjectName) (j : ℕ) → page_at (changed_page u k change pages) v j ≡ option_map changing (page_at pages v j)
    page_at-changed pages v j = find-map changing (is_page v j) pages ∙ ap (λ t. option_map changing (find t pages)) (λ i r. test-changing (is_page v j) (names v j) r i)

    -- the page is found changed
    pub page_at-changed_same : (pages : List Resident) → page_at (changed_page u k change pages) u k ≡ option_map change (page_at pages u k)
    page_at-changed_same pages = page_at-changed pages u k ∙ by_found (page_at pages u k) refl
      where
        by_found : (o : Option Resident) → page_at pages u k ≡ o → option_map changing o ≡ option_map change o
        by_found None none = refl
        by_found (Some r) found = let here : is_page u k r ≡ true = find-passes (is_page u k) pages r found in rw here refl

    -- the others are found as before
    pub page_at-changed_other : (pages : List Resident) (v : ObjectName) (j : ℕ) → is_same v j u k ≡ false → page_at (changed_page u k change pages) v j ≡ page_at pages v j
    page_at-changed_other pages v j differ = page_at-changed pages v j ∙ by_found (page_at pages v j) refl
      where
        by_found : (o : Option Resident) → page_at pages v j ≡ o → option_map changing o ≡ o
        by_found None none = refl
        by_found (Some r) found = let no : is_page u k r ≡ false = apart u k v j r differ (find-passes (is_page v j) pages r found) in rw no refl
