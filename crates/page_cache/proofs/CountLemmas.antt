-- How many pages are clean and not in transit, after each change of the cache's parts.
use Rattle.std.proofs.Common.{◌≡◌, ℕ, ◌+◌, ◌≤◌, Bool, true, false, not, cond, List, [], ◌∷◌, map, filter, Option, Some, None, count_by, refl, sym, ap, ◌∙◌, arith}
use Rattle.std.specs.Int.{from_bool}
use Rattle.std.specs.List.{find}
use Rattle.uid_names.specs.Names.{ObjectName}
use Rattle.uid_names.proofs.ListLemmas.{by_cases, count_by-cons, count_by-cons_passes, count_by-cons_fails, count_by-to_front, count_by-map, filter-map}
use Rattle.page_frames.specs.declared.frame.Flags.{Flags}
use Rattle.page_frames.specs.Pools.{Pool, frame_at, frame_in, no_flags, with_frame, without_frame}
use Rattle.page_frames.specs.Pools as frames
use Rattle.lru.specs.LruCache.{promoted}
use Rattle.page_cache.specs.Caches.{Resident, IsFrame, is_page, is_in, page_at, page_in}
use Rattle.page_cache.specs.Changes.{changed_in}
use Rattle.page_cache.specs.Victims.{is_clean_choice}
use Rattle.page_cache.specs.Insides.{Slot, IsSound, are_clean, same_name, slot_is, seen, clean_count}
use Rattle.page_cache.proofs.CacheLemmas.{IsCache-sound, page_in-frame, map-seen-changed, map-seen-flags, map-seen-installed, map-seen-removed, name_of_page}
use Rattle.page_cache.proofs.PageLemmas.{changed_in-none}
use Rattle.page_cache.proofs.SlotLemmas.{promoted-page, promoted-absent}

-- a test counts for one where it passes
from_bool-is : (b : Bool) → from_bool b ≡ cond b 1 0
from_bool-is true = refl
from_bool-is false = refl

-- where the one page in a frame changes, it alone is counted anew
count-changed : (test : Resident → Bool) (frame : ℕ) (change : Resident → Resident) (r : Resident) (pages : List Resident) → page_in pages frame ≡ Some r → count_by (is_in frame) pages ≤ 1
    → count_by test (changed_in frame change pages) + cond (test r) 1 0 ≡ count_by test pages + cond (test (change r)) 1 0
count-changed test frame change r [] found once = absurd (cc)
count-changed test frame change r (p ∷ pages) found once =
    by_cases
    (is_in frame p)
    (count_by test (changed_in frame change (p ∷ pages)) + cond (test r) 1 0 ≡ count_by test (p ∷ pages) + cond (test (change r)) 1 0)
    (λ is.
    let same : Some p ≡ Some r = rw is at found in
    let here : p ≡ r = cc in
    let others : changed_in frame change pages ≡ pages = changed_in-none frame change pages (omega (arith, count_by-cons_passes (is_in frame) p pages is)) in
    rw (is, others, here) (omega (arith, count_by-cons test (change r) pages, count_by-cons test r pages)))
    (λ is. rw is
    (omega (
      arith,
      count_by-cons test p (changed_in frame change pages),
      count_by-cons test p pages,
      count-changed test frame change r pages (rw is at found) (omega (arith, count_by-cons_fails (is_in frame) p pages is)),
    )))

module _ (pool : Pool) (reserved : ℕ) (slots : List Slot) (places : ℕ) (index : List Slot) (sound : IsSound pool reserved slots places index) where
  -- a clean page is installed
  pub clean_count-installed : (s : Slot) (bytes : List ℕ) → frame_at pool s.1 ≡ None → page_at (map (seen pool) slots) s.0.uid s.0.page ≡ None
      → clean_count (with_frame pool s.1 (record { bytes = bytes; flags = no_flags })) (s ∷ slots) ≡ clean_count pool slots + 1
  clean_count-installed s bytes free absent =
      rw (map-seen-installed pool reserved slots places index sound s (record { bytes = bytes; flags = no_flags }) free absent)
      (count_by-cons_passes is_clean_choice (record { uid = s.0.uid; page = s.0.page; frame = s.1; bytes = bytes; flags = no_flags }) (map (seen pool) slots) refl ∙ omega arith)

  module _ (uid : ObjectName) (page : ℕ) (s : Slot) (found : find (slot_is uid page) slots ≡ Some s) where
    -- a page comes to the front
    pub clean_count-used : clean_count pool (s ∷ filter (λ x. not (slot_is uid page x)) slots) ≡ clean_count pool slots
    clean_count-used =
        count_by-map (seen pool) is_clean_choice (s ∷ filter (λ x. not (slot_is uid page x)) slots)
        ∙ count_by-to_front (slot_is uid page) (λ x. is_clean_choice (seen pool x)) slots s found (sound.pages uid page)
        ∙ sym (count_by-map (seen pool) is_clean_choice slots)

    -- a page is taken out
    pub clean_count-removed : (clean : Bool) → clean ≡ are_clean (frame_in pool s.1).flags → from_bool clean + clean_count (without_frame pool s.1) (filter (λ x. not (slot_is uid page x)) slots) ≡ clean_count pool slots
    clean_count-removed clean is =
        rw (is, from_bool-is (are_clean (frame_in pool s.1).flags), map-seen-removed pool reserved slots places index sound uid page s found, filter-map (seen pool) (λ r. not (is_page uid page r)) slots)
        (sym (count_by-cons is_clean_choice (seen pool s) (map (seen pool) (filter (λ x. not (slot_is uid page x)) slots))) ∙ clean_count-used)

  -- the same where the page may be absent
  pub clean_count-promoted : (uid : ObjectName) (page : ℕ) → clean_count pool (promoted (same_name (name_of_page uid page)) slots) ≡ clean_count pool slots
  clean_count-promoted uid page = by_slot (find (slot_is uid page) slots) refl
    where
      by_slot : (o : Option Slot) → find (slot_is uid page) slots ≡ o → clean_count pool (promoted (same_name (name_of_page uid page)) slots) ≡ clean_count pool slots
      by_slot None none = rw (promoted-absent (name_of_page uid page) slots none) refl
      by_slot (Some s) found = rw (promoted-page (name_of_page uid page) slots s found (sound.pages uid page)) (clean_count-used uid page s found)

  -- the frame of a page holds something else
  module _ (frame : ℕ) (there : IsFrame (map (seen pool) slots) frame) where
    once : count_by (is_in frame) (map (seen pool) slots) ≤ 1
    once = (IsCache-sound pool reserved slots places index sound).frames frame

    -- other flags
    pub clean_count-flags : (flags : Flags) (before after : Bool) → before ≡ are_clean (frame_in pool frame).flags → after ≡ are_clean flags
        → clean_count (frames.with_flags pool frame flags) slots + from_bool before ≡ clean_count pool slots + from_bool after
    clean_count-flags flags before after was is =
        let held = page_in-frame pool reserved slots places index sound frame there in
        let old : is_clean_choice held.0 ≡ before = ap are_clean held.3 ∙ sym was in
        let counted = count-changed is_clean_choice frame (λ r. record r { flags = flags }) held.0 (map (seen pool) slots) held.1 once in
        rw (map-seen-flags pool frame flags slots, from_bool-is before, from_bool-is after) (rw (old, ← is) at counted)

    -- other bytes
    pub clean_count-bytes : (bytes : List ℕ) → clean_count (frames.with_bytes pool frame bytes) slots ≡ clean_count pool slots
    clean_count-bytes bytes =
        let held = page_in-frame pool reserved slots places index sound frame there in
        let change : Resident → Resident = λ r. record r { bytes = bytes } in
        let counted = count-changed is_clean_choice frame change held.0 (map (seen pool) slots) held.1 once in
        rw (map-seen-changed pool frame (record (frame_in pool frame) { bytes = bytes }) change (λ s same. rw same refl) slots) (omega (arith, counted))
