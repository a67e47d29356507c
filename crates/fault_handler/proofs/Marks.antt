-- The marks of frames follow what processes move.
use Rattle.std.proofs.Common.{◌≡◌, ℕ, Bool, true, false, List, [], ◌∷◌, map, reverse, length, Option, Some, None, inl, inr, ◌⊎◌, refl, sym, ap, subst, ◌∙◌, arith}
use Rattle.std.specs.Prelude.{not, slice_index_or}
use Rattle.std.specs.List.{All, find, list_any}
use Rattle.std.specs.Option.{option_map, option_or}
use Rattle.std.proofs.lemmas.Bool.{cases_eq}
use Rattle.std.proofs.lemmas.Bool.Decides.{nat_tests}
use Rattle.std.proofs.lemmas.List.Elements.{All-nil, All-cons, All-head, All-tail, All-map, All-filter, All-weaker}
use Rattle.uid_names.specs.Names.{ObjectName}
use Rattle.page_cache.specs.Caches.{Resident, is_of, is_page, page_at}
use Rattle.page_cache.specs.Changes.{without_page, without_object, with_front, used, changed_if}
use Rattle.page_cache.specs.Victims.{is_clean_choice, is_dirty_choice, oldest, victim_of, name_of}
use Rattle.uid_names.proofs.ListLemmas.{All-reverse, by_cases, find-map}
use Rattle.fault_handler.specs.declared.transits.Transit.{Transit}
use Rattle.fault_handler.specs.Transits.{is_moving, coming, going}
use Rattle.fault_handler.specs.ShownPages.{fresh_page, changed_page}
use Rattle.fault_handler.specs.Desks.{procs, at, put_at, is_in_transit_there}
use Rattle.fault_handler.specs.Victims.{is_idle_clean, is_idle_dirty, named_page}
use Rattle.fault_handler.specs.Invariant.{IsProc, AreApart}
use Rattle.fault_handler.specs.Unseen.{bare, IsMarkedBy, AreMarked, marked_sent, marked_settled}
use Rattle.fault_handler.proofs.Fours.{first, second, third, fourth, at-put_same, at-put_other, any-at}
use Rattle.fault_handler.proofs.Shown.{map-reverse}

-- the tests of all four say the same
any-same : (f g : ℕ → Bool) → ((q : ℕ) → IsProc q → f q ≡ g q) → list_any f procs ≡ list_any g procs
any-same f g same = rw (same 1 first, same 2 second, same 3 third, same 4 fourth) refl

-- a page is in transit by none where no process moves it
pub none-moves : (moving : List (Option Transit)) (v : ObjectName) (j : ℕ) → ((q : ℕ) → IsProc q → is_moving v j (at moving q None) ≡ false) → is_in_transit_there moving v j ≡ false
none-moves moving v j none = rw (none 1 first, none 2 second, none 3 third, none 4 fourth) refl

module _ (moving : List (Option Transit)) (p : ℕ) (t : Option Transit) (four : length moving ≡ 4) (is : IsProc p) where
  -- a process moves another page than before: what is said of those that are neither stays
  there-other : (v : ObjectName) (j : ℕ) → is_moving v j (at moving p None) ≡ false → is_moving v j t ≡ false → is_in_transit_there (put_at moving p t) v j ≡ is_in_transit_there moving v j
  there-other v j own new = any-same (λ q. is_moving v j (at (put_at moving p t) q None)) (λ q. is_moving v j (at moving q None)) each
    where
      each : (q : ℕ) → IsProc q → is_moving v j (at (put_at moving p t) q None) ≡ is_moving v j (at moving q None)
      each q proc = elim (cases_eq q p) [
        | inl same ↦
            subst (λ (r : ℕ). is_moving v j (at (put_at moving p t) r None) ≡ is_moving v j (at moving r None)) (sym same) (ap (is_moving v j) (at-put_same moving p t None four is) ∙ new ∙ sym own)
        | inr differs ↦ ap (is_moving v j) (at-put_other moving p q t None is proc differs)
      ]

  -- the one that it moves now is in transit
  there-moved : (v : ObjectName) (j : ℕ) → is_moving v j t ≡ true → is_in_transit_there (put_at moving p t) v j ≡ true
  there-moved v j moves = any-at (λ q. is_moving v j (at (put_at moving p t) q None)) p is (ap (is_moving v j) (at-put_same moving p t None four is) ∙ moves)

-- the one that it moves no more is not, where no two move one page
there-left : (moving : List (Option Transit)) (p : ℕ) (v : ObjectName) (j : ℕ) → length moving ≡ 4 → IsProc p → AreApart moving → is_moving v j (at moving p None) ≡ true → is_in_transit_there (put_at moving p None) v j ≡ false
there-left moving p v j four is apart own = none-moves (put_at moving p None) v j each
  where
    each : (q : ℕ) → IsProc q → is_moving v j (at (put_at moving p None) q None) ≡ false
    each q proc = elim (cases_eq q p) [
      | inl same ↦ subst (λ (r : ℕ). is_moving v j (at (put_at moving p None) r None) ≡ false) (sym same) (ap (is_moving v j) (at-put_same moving p None None four is))
      | inr differs ↦
          ap (is_moving v j) (at-put_other moving p q None None is proc differs)
          ∙ by_cases (is_moving v j (at moving q None)) (is_moving v j (at moving q None) ≡ false) (λ also. absurd (differs (apart q p proc is v j also own))) (λ no. no)
    ]

-- what holds of each holds of one that is found
All-found : (P : Resident → Type 0) (test : Resident → Bool) (pages : List Resident) (r : Resident) → All P pages → find test pages ≡ Some r → P r
All-found P test [] r all found = absurd (cc)
All-found P test (x ∷ rest) r all found =
    by_cases
    (test x)
    (P r)
    (λ is. let same : Some x ≡ Some r = rw is at found in let e : x ≡ r = cc in subst P e (All-head P x rest all))
    (λ fails. All-found P test rest r (All-tail P x rest all) (rw fails at found))

-- none passes where none is found
All-absent : (test : Resident → Bool) (pages : List Resident) → find test pages ≡ None → All (λ r. test r ≡ false) pages
All-absent test [] none = All-nil (λ r. test r ≡ false)
All-absent test (x ∷ rest) none =
    by_cases
    (test x)
    (All (λ r. test r ≡ false) (x ∷ rest))
    (λ is. absurd (let found : Some x ≡ None = rw is at none in cc))
    (λ fails. All-cons (λ r. test r ≡ false) x rest fails (All-absent test rest (rw fails at none)))

module _ (moving : List (Option Transit)) (pages : List Resident) (marked : AreMarked pages moving) where
  pub marked-without : (u : ObjectName) (k : ℕ) → AreMarked (without_page pages u k) moving
  marked-without u k = All-filter (λ r. not (is_page u k r)) (IsMarkedBy moving) pages marked

  pub marked-without_object : (u : ObjectName) → AreMarked (without_object pages u) moving
  marked-without_object u = All-filter (λ r. not (is_of u r)) (IsMarkedBy moving) pages marked

  pub marked-used : (u : ObjectName) (k : ℕ) → AreMarked (used pages u k) moving
  marked-used u k = by_found (page_at pages u k) refl
    where
      by_found : (o : Option Resident) → page_at pages u k ≡ o → AreMarked (with_front o (without_page pages u k)) moving
      by_found None found = marked-without u k
      by_found (Some r) found = All-cons (IsMarkedBy moving) r (without_page pages u k) (All-found (IsMarkedBy moving) (is_page u k) pages r marked found) (marked-without u k)

  -- a page changes, and what is moved
  marked-changed : (new : List (Option Transit)) (u : ObjectName) (k : ℕ) (change : Resident → Resident) → ((r : Resident) → is_page u k r ≡ true → IsMarkedBy moving r → IsMarkedBy new (change r))
      → ((r : Resident) → is_page u k r ≡ false → IsMarkedBy moving r → IsMarkedBy new r) → AreMarked (changed_page u k change pages) new
  marked-changed new u k change here other =
      All-map (IsMarkedBy new) (λ r. changed_if (is_page u k r) change r) pages (All-weaker (IsMarkedBy moving) (λ r. IsMarkedBy new (changed_if (is_page u k r) change r)) each pages marked)
    where
      each : (r : Resident) → IsMarkedBy moving r → IsMarkedBy new (changed_if (is_page u k r) change r)
      each r is = by_cases (is_page u k r) (IsMarkedBy new (changed_if (is_page u k r) change r)) (λ same. rw same (here r same is)) (λ differs. rw differs (other r differs is))

  -- what is moved changes, of a page that is not resident
  marked-absent : (new : List (Option Transit)) (u : ObjectName) (k : ℕ) → page_at pages u k ≡ None → ((r : Resident) → is_page u k r ≡ false → IsMarkedBy moving r → IsMarkedBy new r) → AreMarked pages new
  marked-absent new u k none other i d within = other (slice_index_or pages i d) (All-absent (is_page u k) pages none i d within) (marked i d within)

  -- a page is changed that stays as marked
  pub marked-same : (u : ObjectName) (k : ℕ) (change : Resident → Resident) → ((r : Resident) → IsMarkedBy moving r → IsMarkedBy moving (change r)) → AreMarked (changed_page u k change pages) moving
  marked-same u k change same = marked-changed moving u k change (λ r is. same r) (λ r differs is. is)

  module _ (p : ℕ) (u : ObjectName) (k : ℕ) (four : length moving ≡ 4) (is : IsProc p) where
    -- a page of another name is not what moves
    other-moves : (inward : Bool) (r : Resident) → is_page u k r ≡ false → is_moving r.uid r.page (Some (record { uid = u; page = k; inward = inward })) ≡ false
    other-moves inward r differs = grind (arith, nat_tests, differs)

    own-moves : (inward : Bool) (r : Resident) → is_page u k r ≡ true → is_moving r.uid r.page (Some (record { uid = u; page = k; inward = inward })) ≡ true
    own-moves inward r same = grind (arith, nat_tests, same)

    -- a page is sent home
    pub marked-sent : (at moving p None ≡ None) ⊎ (at moving p None ≡ going u k) → AreMarked (changed_page u k marked_sent pages) (put_at moving p (going u k))
    marked-sent alone =
        marked-changed (put_at moving p (going u k)) u k marked_sent
        (λ r same marked_r. sym (there-moved moving p (going u k) four is r.uid r.page (own-moves false r same)))
        (λ r differs marked_r. marked_r ∙ sym (there-other moving p (going u k) four is r.uid r.page (before alone r differs) (other-moves false r differs)))
      where
        before : (at moving p None ≡ None) ⊎ (at moving p None ≡ going u k) → (r : Resident) → is_page u k r ≡ false → is_moving r.uid r.page (at moving p None) ≡ false
        before (inl none) r differs = ap (is_moving r.uid r.page) none
        before (inr goes) r differs = ap (is_moving r.uid r.page) goes ∙ other-moves false r differs

    -- it is on its way no more
    pub marked-settles : (taken : Bool) → AreApart moving → at moving p None ≡ going u k → AreMarked (changed_page u k (marked_settled taken) pages) (put_at moving p None)
    marked-settles taken apart goes =
        marked-changed (put_at moving p None) u k (marked_settled taken)
        (λ r same marked_r. sym (there-left moving p r.uid r.page four is apart (ap (is_moving r.uid r.page) goes ∙ own-moves false r same)))
        (λ r differs marked_r. marked_r ∙ sym (there-other moving p None four is r.uid r.page (ap (is_moving r.uid r.page) goes ∙ other-moves false r differs) refl))

    -- a page is asked for
    pub marked-fetched : page_at pages u k ≡ None → at moving p None ≡ None → AreMarked pages (put_at moving p (coming u k))
    marked-fetched none still =
        marked-absent (put_at moving p (coming u k)) u k none
        (λ r differs marked_r. marked_r ∙ sym (there-other moving p (coming u k) four is r.uid r.page (ap (is_moving r.uid r.page) still) (other-moves true r differs)))

    -- it will not come
    pub marked-lost : page_at pages u k ≡ None → at moving p None ≡ coming u k → AreMarked pages (put_at moving p None)
    marked-lost none comes =
        marked-absent (put_at moving p None) u k none
        (λ r differs marked_r. marked_r ∙ sym (there-other moving p None four is r.uid r.page (ap (is_moving r.uid r.page) comes ∙ other-moves true r differs) refl))

    -- it came: into a frame without a mark
    pub marked-arrived : (frame : ℕ) (bytes : List ℕ) → page_at pages u k ≡ None → AreApart moving → at moving p None ≡ coming u k → AreMarked (record (fresh_page u k bytes) { frame = frame } ∷ pages) (put_at moving p None)
    marked-arrived frame bytes none apart comes =
        All-cons (IsMarkedBy (put_at moving p None)) (record (fresh_page u k bytes) { frame = frame }) pages
        (sym (there-left moving p u k four is apart (ap (is_moving u k) comes ∙ own-moves true (fresh_page u k bytes) (grind (arith, nat_tests)))))
        (marked-lost none comes)

-- two tests that say the same of each find the same
find-alike : (p q : Resident → Bool) (pages : List Resident) → All (λ r. p r ≡ q r) pages → find p pages ≡ find q pages
find-alike p q [] all = refl
find-alike p q (x ∷ rest) all = rw (All-head (λ r. p r ≡ q r) x rest all, find-alike p q rest (All-tail (λ r. p r ≡ q r) x rest all)) refl

module _ (moving : List (Option Transit)) (pages : List Resident) (marked : AreMarked pages moving) where
  oldest-shown : (shown test : Resident → Bool) → ((r : Resident) → IsMarkedBy moving r → shown (bare r) ≡ test r) → oldest shown (map bare pages) ≡ option_map bare (oldest test pages)
  oldest-shown shown test same =
      ap (find shown) (map-reverse bare pages) ∙ find-map bare shown (reverse pages)
      ∙ ap (option_map bare) (find-alike (λ r. shown (bare r)) test (reverse pages) (All-reverse (λ r. shown (bare r) ≡ test r) pages (All-weaker (IsMarkedBy moving) (λ r. shown (bare r) ≡ test r) same pages marked)))

  either-shown : (a b : Option Resident) → option_map name_of (option_or (option_map bare a) (option_map bare b)) ≡ option_map name_of (option_or a b)
  either-shown None None = refl
  either-shown None (Some r) = refl
  either-shown (Some r) b = refl

  clean-shown : (r : Resident) → IsMarkedBy moving r → is_idle_clean moving (bare r) ≡ is_clean_choice r
  clean-shown r is = rw is refl

  dirty_one-shown : (r : Resident) → IsMarkedBy moving r → is_idle_dirty moving (bare r) ≡ is_dirty_choice r
  dirty_one-shown r is = rw is refl

  -- the page that a cache names is the one that is named by what is moved
  pub named-shown : option_map name_of (named_page moving (map bare pages)) ≡ option_map name_of (victim_of pages)
  named-shown =
      rw (oldest-shown (is_idle_clean moving) is_clean_choice clean-shown, oldest-shown (is_idle_dirty moving) is_dirty_choice dirty_one-shown)
      (either-shown (oldest is_clean_choice pages) (oldest is_dirty_choice pages))
