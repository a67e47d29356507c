-- Lemmas on a cache's pages, for its own calls and for its callers.
use Rattle.std.proofs.Common.{◌≡◌, ℕ, ◌<◌, ◌≤◌, Bool, true, List, [], ◌∷◌, ◌++◌, reverse, min, nat_le, inl, inr, ◌⊎◌, Option, Some, None, IfSome, count_by, refl, sym, ap, ◌∙◌, arith}
use Rattle.std.proofs.lemmas.Bool.Decides.{nat_tests}
use Rattle.std.proofs.lemmas.List.{reverse-append}
use Rattle.std.specs.List.{find}
use Rattle.std.specs.Option.{option_map, option_or, unwrap_or}
use Rattle.uid_names.specs.Names.{ObjectName}
use Rattle.page_cache.specs.Caches.{Resident, IsResident, is_page, is_in, page_at}
use Rattle.page_cache.specs.Changes.{changed_in}
use Rattle.page_cache.specs.Victims.{oldest, name_of}
use Rattle.page_cache.specs.Numbers.{is_dirty_of, lesser, dirty_page}
use Rattle.uid_names.proofs.ListLemmas.{by_cases, count_by-cons, count_by-push, count_by-cons_passes, count_by-cons_fails, find-count_none, count_by-none, find_once, find-push}
use Rattle.uid_names.proofs.Somes.{option_or-none}

-- the first comes last
pub reverse-cons : {X : Type 0} (x : X) (xs : List X) → reverse (x ∷ xs) ≡ reverse xs ++ x ∷ []
reverse-cons x xs = reverse-append (x ∷ []) xs

-- a test that one element passes finds it from either end
find-reverse : {X : Type 0} (p : X → Bool) (xs : List X) → count_by p xs ≤ 1 → find p (reverse xs) ≡ find p xs
find-reverse p [] once = refl
find-reverse p (x ∷ xs) once =
    by_cases
    (p x)
    (find p (reverse (x ∷ xs)) ≡ find p (x ∷ xs))
    (λ is.
    let none : find p xs ≡ None = find-count_none p xs (omega (arith, count_by-cons_passes p x xs is)) in
    let before : find p (reverse xs) ≡ None = find-reverse p xs (omega (arith, count_by-cons_passes p x xs is)) ∙ none in
    rw (reverse-cons x xs, find-push p (reverse xs) x, before, is) refl)
    (λ is. rw (reverse-cons x xs, find-push p (reverse xs) x, is) (option_or-none (find p (reverse xs)) ∙ find-reverse p xs (omega (arith, count_by-cons_fails p x xs is))))

-- as many pass in the other order
count_by-reverse : {X : Type 0} (p : X → Bool) (xs : List X) → count_by p (reverse xs) ≡ count_by p xs
count_by-reverse p [] = refl
count_by-reverse p (x ∷ xs) = rw (reverse-cons x xs) (omega (arith, count_by-push p (reverse xs) x, count_by-cons p x (reverse xs), count_by-cons p x xs, count_by-reverse p xs))

-- nothing is the oldest where no page passes
pub oldest-none : (test : Resident → Bool) (pages : List Resident) → count_by test pages ≡ 0 → oldest test pages ≡ None
oldest-none test pages none = find-count_none test (reverse pages) (count_by-reverse test pages ∙ none)

-- nothing else is looked at where some pass
pub oldest-some : (test : Resident → Bool) (pages : List Resident) (other : Option Resident) → 0 < count_by test pages → option_or (oldest test pages) other ≡ oldest test pages
oldest-some test pages other some = by_choice (oldest test pages) refl
  where
    by_choice : (o : Option Resident) → oldest test pages ≡ o → option_or o other ≡ o
    by_choice None is = absurd (omega (arith, some, count_by-none test (reverse pages) is, count_by-reverse test pages))
    by_choice (Some r) is = refl

module _ (pages : List Resident) (once : (uid : ObjectName) (page : ℕ) → count_by (is_page uid page) pages ≤ 1) where
  -- the oldest page that passes a test is resident
  pub page_at-oldest : (test : Resident → Bool) (r : Resident) → oldest test pages ≡ Some r → page_at pages r.uid r.page ≡ Some r
  page_at-oldest test r found =
      let back = find-reverse (is_page r.uid r.page) pages (once r.uid r.page) in
      sym back ∙ find_once test (is_page r.uid r.page) (reverse pages) r (omega (arith, count_by-reverse (is_page r.uid r.page) pages, once r.uid r.page)) found (grind (arith, nat_tests))

  -- so the page of its name is
  pub IsResident-oldest : (test : Resident → Bool) (name : ObjectName × ℕ) → Some name ≡ option_map name_of (oldest test pages) → IsResident pages name.0 name.1
  IsResident-oldest test name is = by_choice (oldest test pages) refl (sym is)
    where
      by_choice : (o : Option Resident) → oldest test pages ≡ o → option_map name_of o ≡ Some name → IsResident pages name.0 name.1
      by_choice None none found = absurd (cc)
      by_choice (Some r) there found =
          let uid : r.uid ≡ name.0 = ap (λ n. (unwrap_or n name).0) found in
          let page : r.page ≡ name.1 = ap (λ n. (unwrap_or n name).1) found in
          rw (← uid, ← page, page_at-oldest test r there) refl

  -- so it is, where there is one
  pub IfSome-oldest : (test : Resident → Bool) (result : Option (ObjectName × ℕ)) → result ≡ option_map name_of (oldest test pages) → IfSome result (λ name. IsResident pages name.0 name.1)
  IfSome-oldest test None is = tt
  IfSome-oldest test (Some name) is = IsResident-oldest test name is

-- a page behind the first is resident, and so is the first
later_page : (r : Resident) (rest : List Resident) (uid : ObjectName) (page : ℕ) → IsResident rest uid page → IsResident (r ∷ rest) uid page
later_page r rest uid page is = by_cases (is_page uid page r) (IsResident (r ∷ rest) uid page) (λ here. rw here refl) (λ not_here. rw not_here is)

-- the lesser of two is one of them
pub lesser_is : (a k : ℕ) (o : Option ℕ) → lesser (Some a) o ≡ Some k → (a ≡ k) ⊎ (o ≡ Some k)
lesser_is a k None is = inl (cc)
lesser_is a k (Some b) is =
    let least : min a b ≡ k = cc in
    by_cases
    (nat_le a b)
    ((a ≡ k) ⊎ ◌≡◌ {A = Option ℕ} (Some b) (Some k))
    (λ le. let below : a ≤ b = grind (arith, nat_tests) in inl (omega arith))
    (λ gt. let above : b < a = grind (arith, nat_tests) in let same : b ≡ k = omega arith in inr (ap Some same))

-- the lowest dirty page is resident
pub IsResident-dirty : (pages : List Resident) (uid : ObjectName) (page : ℕ) → dirty_page pages uid ≡ Some page → IsResident pages uid page
IsResident-dirty [] uid page found = absurd (cc)
IsResident-dirty (r ∷ rest) uid page found =
    by_cases
    (is_dirty_of uid r)
    (IsResident (r ∷ rest) uid page)
    (λ is.
    elim (lesser_is r.page page (dirty_page rest uid) (rw is at found)) [
      | inl same ↦ let here : is_page uid page r ≡ true = rw same (grind (arith, nat_tests)) in rw here refl
      | inr later ↦ later_page r rest uid page (IsResident-dirty rest uid page later)
    ])
    (λ is. later_page r rest uid page (IsResident-dirty rest uid page (rw is at found)))

-- so it is where it is known by another spelling
pub IsResident-lowest : (pages : List Resident) (uid : ObjectName) (lowest : Option ℕ) → dirty_page pages uid ≡ lowest → IfSome lowest (IsResident pages uid)
IsResident-lowest pages uid None is = tt
IsResident-lowest pages uid (Some page) is = IsResident-dirty pages uid page is

-- a change in a frame that no page is in changes nothing
pub changed_in-none : (frame : ℕ) (change : Resident → Resident) (pages : List Resident) → count_by (is_in frame) pages ≡ 0 → changed_in frame change pages ≡ pages
changed_in-none frame change [] none = refl
changed_in-none frame change (r ∷ rest) none =
    by_cases
    (is_in frame r)
    (changed_in frame change (r ∷ rest) ≡ r ∷ rest)
    (λ is. absurd (omega (arith, count_by-cons_passes (is_in frame) r rest is)))
    (λ is. rw (is, changed_in-none frame change rest (omega (arith, count_by-cons_fails (is_in frame) r rest is))) refl)

-- a change of the page in front
pub changed_in-front : (change : Resident → Resident) (r : Resident) (rest : List Resident) → count_by (is_in r.frame) (r ∷ rest) ≤ 1 → changed_in r.frame change (r ∷ rest) ≡ change r ∷ rest
changed_in-front change r rest once =
    let here : is_in r.frame r ≡ true = grind (arith, nat_tests) in
    rw (here, changed_in-none r.frame change rest (omega (arith, count_by-cons_passes (is_in r.frame) r rest here))) refl
