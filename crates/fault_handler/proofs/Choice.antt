-- A page can always be chosen to make room, and the chosen one is not in transit.
use Rattle.std.proofs.Common.{◌≡◌, ℕ, ◌+◌, ◌≤◌, Bool, true, false, cond, List, [], ◌∷◌, ◌++◌, length, reverse, Option, Some, None, IsSome, count_by, refl, sym, ap, subst, ◌∙◌, arith}
use Rattle.std.specs.Prelude.{not, ◌&&◌, ◌||◌}
use Rattle.std.specs.Option.{option_or, option_map}
use Rattle.std.proofs.lemmas.List.{reverse-append}
use Rattle.std.proofs.lemmas.Bool.{and_parts, not-true}
use Rattle.std.proofs.lemmas.Bool.Decides.{nat_tests}
use Rattle.uid_names.specs.Names.{ObjectName}
use Rattle.page_cache.specs.Caches.{Resident, is_page, page_at, free_count}
use Rattle.page_cache.specs.Victims.{oldest}
use Rattle.uid_names.proofs.Finds.{find-passes}
use Rattle.uid_names.proofs.ListLemmas.{count_by-cons, count_by-push, count_by-none}
use Rattle.page_cache.proofs.PageLemmas.{page_at-oldest}
use Rattle.fault_handler.specs.declared.entries.LockEntry.{LockEntry}
use Rattle.fault_handler.specs.declared.transits.Transit.{Transit}
use Rattle.fault_handler.specs.Victims.{Victim, MayMakeRoom, is_idle_clean, is_idle_dirty, is_idle_one, is_idle_page, victim_by, named_page, named_victim}
use Rattle.fault_handler.specs.Transits.{is_moving, inward_count}
use Rattle.fault_handler.specs.Desks.{DeskState, at, count_of, moving_of, is_in_transit_there}
use Rattle.fault_handler.specs.Invariant.{IsProc, is_dirty, FitsWay, FitsTransit, IsDesk}
use Rattle.fault_handler.proofs.Fours.{by_proc, first, second, third, fourth}
use Rattle.fault_handler.proofs.PageLists.{AreOnce, found-uid, found-page}

-- whether a page is in transit
abbrev is_moved : List (Option Transit) → Resident → Bool
is_moved moving r = is_in_transit_there moving r.uid r.page

-- an idle page is clean
pub idle-clean : (d : DeskState) (u : ObjectName) (k : ℕ) → is_idle_page d u k ≡ true → is_dirty (page_at d.cache.pages u k) ≡ false
idle-clean d u k = by_page (page_at d.cache.pages u k)
  where
    by_page : (o : Option Resident) → is_idle_one d.moving o ≡ true → is_dirty o ≡ false
    by_page None is = refl
    by_page (Some r) is = not-true r.flags.dirty (and_parts (not r.flags.dirty) (not (is_moved d.moving r)) is).0

-- an idle page is not in transit
pub idle-still : (d : DeskState) (u : ObjectName) (k : ℕ) → is_idle_page d u k ≡ true → is_in_transit_there d.moving u k ≡ false
idle-still d u k is = by_page (page_at d.cache.pages u k) refl is
  where
    by_page : (o : Option Resident) → page_at d.cache.pages u k ≡ o → is_idle_one d.moving o ≡ true → is_in_transit_there d.moving u k ≡ false
    by_page None found idle = absurd (cc)
    by_page (Some r) found idle =
        subst (λ (v : ObjectName). is_in_transit_there d.moving v k ≡ false) (found-uid d.cache.pages u k r found)
        (subst (λ (j : ℕ). is_in_transit_there d.moving r.uid j ≡ false) (found-page d.cache.pages u k r found) (not-true (is_moved d.moving r) (and_parts (not r.flags.dirty) (not (is_moved d.moving r)) idle).1))

module _ (moving : List (Option Transit)) (pages : List Resident) where
  -- the chosen page, by whether a clean one is there
  by_clean : (r : Resident) (P : Type 0) → (oldest (is_idle_clean moving) pages ≡ Some r → P) → (oldest (is_idle_dirty moving) pages ≡ Some r → P) → named_page moving pages ≡ Some r → P
  by_clean r P clean dirty chosen = by_oldest (oldest (is_idle_clean moving) pages) refl chosen
    where
      by_oldest : (o : Option Resident) → oldest (is_idle_clean moving) pages ≡ o → option_or o (oldest (is_idle_dirty moving) pages) ≡ Some r → P
      by_oldest None none h = dirty h
      by_oldest (Some s) found h = clean (found ∙ h)

  -- it is resident
  pub victim-resident : (r : Resident) → AreOnce pages → named_page moving pages ≡ Some r → page_at pages r.uid r.page ≡ Some r
  victim-resident r once = by_clean r (page_at pages r.uid r.page ≡ Some r) (page_at-oldest pages once (is_idle_clean moving) r) (page_at-oldest pages once (is_idle_dirty moving) r)

  -- it is not in transit
  pub victim-still : (r : Resident) → named_page moving pages ≡ Some r → is_in_transit_there moving r.uid r.page ≡ false
  victim-still r =
      by_clean r (is_in_transit_there moving r.uid r.page ≡ false)
      (λ found. not-true (is_moved moving r) (and_parts (not r.flags.dirty) (not (is_moved moving r)) (find-passes (is_idle_clean moving) (reverse pages) r found)).1)
      (λ found. not-true (is_moved moving r) (and_parts r.flags.dirty (not (is_moved moving r)) (find-passes (is_idle_dirty moving) (reverse pages) r found)).1)

-- as many pass in the other order
count_by-reverse : (test : Resident → Bool) (pages : List Resident) → count_by test (reverse pages) ≡ count_by test pages
count_by-reverse test [] = refl
count_by-reverse test (r ∷ pages) =
    let turned : reverse (r ∷ pages) ≡ reverse pages ++ r ∷ [] = reverse-append (r ∷ []) pages in
    rw turned (omega (arith, count_by-push test (reverse pages) r, count_by-cons test r (reverse pages), count_by-cons test r pages, count_by-reverse test pages))

-- none passes where none is the oldest
oldest-none : (test : Resident → Bool) (pages : List Resident) → oldest test pages ≡ None → count_by test pages ≡ 0
oldest-none test pages none = sym (count_by-reverse test pages) ∙ count_by-none test (reverse pages) none

module _ (moving : List (Option Transit)) where
  -- each page is clean, dirty, or in transit
  all_counted : (pages : List Resident) → count_by (is_idle_clean moving) pages + (count_by (is_idle_dirty moving) pages + count_by (is_moved moving) pages) ≡ length pages
  all_counted [] = refl
  all_counted (r ∷ pages) =
      let one : cond (is_idle_clean moving r) 1 0 + (cond (is_idle_dirty moving r) 1 0 + cond (is_moved moving r) 1 0) ≡ 1 = by_flags r.flags.dirty (is_moved moving r) in
      omega (arith, count_by-cons (is_idle_clean moving) r pages, count_by-cons (is_idle_dirty moving) r pages, count_by-cons (is_moved moving) r pages, all_counted pages)
    where
      by_flags : (dirty transit : Bool) → cond (not dirty && not transit) 1 0 + (cond (dirty && not transit) 1 0 + cond transit 1 0) ≡ 1
      by_flags true true = refl
      by_flags true false = refl
      by_flags false true = refl
      by_flags false false = refl

  -- so all are in transit where none can be chosen
  victim-none : (pages : List Resident) → named_page moving pages ≡ None → count_by (is_moved moving) pages ≡ length pages
  victim-none pages none = by_oldest (oldest (is_idle_clean moving) pages) refl none
    where
      by_oldest : (o : Option Resident) → oldest (is_idle_clean moving) pages ≡ o → option_or o (oldest (is_idle_dirty moving) pages) ≡ None → count_by (is_moved moving) pages ≡ length pages
      by_oldest None clean h = omega (arith, all_counted pages, oldest-none (is_idle_clean moving) pages clean, oldest-none (is_idle_dirty moving) pages h)
      by_oldest (Some s) found h = absurd (cc)

-- whether a process moves a page
abbrev moves_it : Option Transit → Resident → Bool
moves_it t r = is_moving r.uid r.page t

-- no more pages are in transit than the four processes move
one_of : (a b c d : Bool) → cond (a || (b || (c || (d || false)))) 1 0 ≤ cond a 1 0 + cond b 1 0 + cond c 1 0 + cond d 1 0
one_of true b c d = omega arith
one_of false true c d = omega arith
one_of false false true d = omega arith
one_of false false false true = omega arith
one_of false false false false = omega arith

moved_within : (moving : List (Option Transit)) (pages : List Resident)
    → count_by (is_moved moving) pages ≤ count_by (moves_it (at moving 1 None)) pages + count_by (moves_it (at moving 2 None)) pages + count_by (moves_it (at moving 3 None)) pages + count_by (moves_it (at moving 4 None)) pages
moved_within moving [] = omega arith
moved_within moving (r ∷ pages) =
    let one : cond (is_moved moving r) 1 0 ≤ cond (moves_it (at moving 1 None) r) 1 0 + cond (moves_it (at moving 2 None) r) 1 0 + cond (moves_it (at moving 3 None) r) 1 0 + cond (moves_it (at moving 4 None) r) 1 0 =
    one_of (moves_it (at moving 1 None) r) (moves_it (at moving 2 None) r) (moves_it (at moving 3 None) r) (moves_it (at moving 4 None) r) in
    omega (
      arith,
      count_by-cons (is_moved moving) r pages,
      count_by-cons (moves_it (at moving 1 None)) r pages,
      count_by-cons (moves_it (at moving 2 None)) r pages,
      count_by-cons (moves_it (at moving 3 None)) r pages,
      count_by-cons (moves_it (at moving 4 None)) r pages,
      moved_within moving pages,
    )

-- a process that moves none moves none of them
none-moved : (pages : List Resident) → count_by (moves_it None) pages ≡ 0
none-moved [] = refl
none-moved (r ∷ pages) = none-moved pages

-- it moves the page of its transit alone
moves-page : (t : Transit) (r : Resident) → moves_it (Some t) r ≡ is_page t.uid t.page r
moves-page t r = grind (arith, nat_tests)

count_by-moves : (t : Transit) (pages : List Resident) → count_by (moves_it (Some t)) pages ≡ count_by (is_page t.uid t.page) pages
count_by-moves t pages = ap (λ (test : Resident → Bool). count_by test pages) (λ i r. moves-page t r i)

module _ (pages : List Resident) (entries : List (List LockEntry)) (once : AreOnce pages) where
  -- a process moves one page at most, which is not resident where it comes
  one_moved : (q : ℕ) (t : Option Transit) → FitsTransit pages entries q t → count_by (moves_it t) pages + inward_count t ≤ 1
  one_moved q None fits = omega (arith, none-moved pages)
  one_moved q (Some t) fits = by_way t.inward refl fits
    where
      by_way : (b : Bool) → t.inward ≡ b → FitsWay b pages entries q t.uid t.page → count_by (moves_it (Some t)) pages + inward_count (Some t) ≤ 1
      by_way true way comes = rw way (omega (arith, count_by-moves t pages, count_by-none (is_page t.uid t.page) pages comes.0))
      by_way false way goes = rw way (omega (arith, count_by-moves t pages, once t.uid t.page))

  -- where one process moves none, at most three pages are in transit
  three_moved : (moving : List (Option Transit)) (p : ℕ) → IsProc p → at moving p None ≡ None → ((q : ℕ) → IsProc q → FitsTransit pages entries q (at moving q None)) → count_by (is_moved moving) pages + count_of inward_count moving ≤ 3
  three_moved moving p is none fits =
      by_proc
      (λ q. at moving q None ≡ None → count_by (is_moved moving) pages + count_of inward_count moving ≤ 3)
      (λ still. let none_of = still-one (at moving 1 None) still in omega (arith, moved_within moving pages, none_of, one 2 second, one 3 third, one 4 fourth))
      (λ still. let none_of = still-one (at moving 2 None) still in omega (arith, moved_within moving pages, none_of, one 1 first, one 3 third, one 4 fourth))
      (λ still. let none_of = still-one (at moving 3 None) still in omega (arith, moved_within moving pages, none_of, one 1 first, one 2 second, one 4 fourth))
      (λ still. let none_of = still-one (at moving 4 None) still in omega (arith, moved_within moving pages, none_of, one 1 first, one 2 second, one 3 third))
      p is none
    where
      one : (q : ℕ) → IsProc q → count_by (moves_it (at moving q None)) pages + inward_count (at moving q None) ≤ 1
      one q proc = one_moved q (at moving q None) (fits q proc)

      still-one : (t : Option Transit) → t ≡ None → count_by (moves_it t) pages + inward_count t ≡ 0
      still-one t still = rw still (omega (arith, none-moved pages))

-- with five frames and four processes a page can be chosen where no frame is free, by a process that moves none
pub victim-there : (d : DeskState) (p : ℕ) → IsDesk d → IsProc p → moving_of d p ≡ None → free_count d.cache ≡ 0 → IsSome (named_page d.moving d.cache.pages)
victim-there d p is proc none full = by_victim (named_page d.moving d.cache.pages) refl
  where
    by_victim : (o : Option Resident) → named_page d.moving d.cache.pages ≡ o → IsSome o
    by_victim (Some r) chosen = refl
    by_victim None chosen =
        absurd
        (let all : count_by (is_moved d.moving) d.cache.pages ≡ length d.cache.pages = victim-none d.moving d.cache.pages chosen in
        let three = three_moved d.cache.pages d.entries is.pages.once d.moving p proc none is.moved.each in
        let reserved : d.cache.reserved ≡ count_of inward_count d.moving = is.moved.reserved in
        let frames : 5 ≤ d.cache.frames = is.frames in
        omega arith)

-- the page that a cache names may make room
pub named-may : (d : DeskState) (v : Victim) → AreOnce d.cache.pages → named_victim d ≡ Some v → MayMakeRoom d v
named-may d v once = by_victim (named_page d.moving d.cache.pages) refl
  where
    clean_is : (r : Resident) → is_idle_clean d.moving r ≡ true → r.flags.dirty ≡ false
    clean_is r is = not-true r.flags.dirty (and_parts (not r.flags.dirty) (not (is_moved d.moving r)) is).0

    -- a dirty one is named only where there is no clean one
    by_dirty : (r : Resident) → named_page d.moving d.cache.pages ≡ Some r → r.flags.dirty ≡ true → (o : Option Resident) → oldest (is_idle_clean d.moving) d.cache.pages ≡ o → (o ≡ None) × (oldest (is_idle_dirty d.moving) d.cache.pages ≡ Some r)
    by_dirty r chosen dirty None none = (refl, rw none at chosen)
    by_dirty r chosen dirty (Some s) found =
        let same : ◌≡◌ {A = Option Resident} (Some s) (Some r) = rw found at chosen in
        let is : s ≡ r = cc in
        let clean : s.flags.dirty ≡ false = clean_is s (find-passes (is_idle_clean d.moving) (reverse d.cache.pages) s found) in
        absurd (let e : true ≡ false = sym dirty ∙ ap (λ (x : Resident). x.flags.dirty) (sym is) ∙ clean in cc)

    by_kind : (r : Resident) → named_page d.moving d.cache.pages ≡ Some r → (dirty : Bool) → r.flags.dirty ≡ dirty → MayMakeRoom d (victim_by r dirty)
    by_kind r chosen true dirty = let both = by_dirty r chosen dirty (oldest (is_idle_clean d.moving) d.cache.pages) refl in both
    by_kind r chosen false clean = rw (victim-resident d.moving d.cache.pages r once chosen) (rw (clean, victim-still d.moving d.cache.pages r chosen) refl)

    by_victim : (o : Option Resident) → named_page d.moving d.cache.pages ≡ o → option_map (λ r. victim_by r r.flags.dirty) o ≡ Some v → MayMakeRoom d v
    by_victim None none named = absurd (cc)
    by_victim (Some r) chosen named =
        let is : victim_by r r.flags.dirty ≡ v = cc in
        subst (MayMakeRoom d) is (by_kind r chosen r.flags.dirty refl)

-- it names one where one can be chosen
pub named-there : (d : DeskState) → IsSome (named_page d.moving d.cache.pages) → IsSome (named_victim d)
named-there d = by_victim (named_page d.moving d.cache.pages)
  where
    by_victim : (o : Option Resident) → IsSome o → IsSome (option_map (λ r. victim_by r r.flags.dirty) o)
    by_victim None some = some
    by_victim (Some r) some = refl
