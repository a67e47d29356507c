-- The cache that its parts stand for, and what each change keeps of them.
use Rattle.std.proofs.Common.{◌≡◌, ◌≢◌, ℕ, suc, ◌-◌, ◌<◌, ◌≤◌, Bool, false, not, List, [], ◌∷◌, map, filter, length, Option, Some, None, is_some, IsSome, count_by, IfSome, IfNone, ◌↔◌, inl, inr, refl, sym, ap, ◌∙◌, arith, subst}
use Rattle.std.proofs.lemmas.Bool.Decides.{nat_tests}
use Rattle.std.proofs.lemmas.Bool.{cases_eq, not-true}
use Rattle.std.proofs.lemmas.List.{length-map}
use Rattle.std.specs.List.{find}
use Rattle.std.specs.Option.{option_map}
use Rattle.std.specs.Ordering.{nat_cmp}
use Rattle.std.specs.FinMap.{empty, len-empty}
use Rattle.std.specs.Map.{lookup}
use Rattle.uid_names.specs.Names.{ObjectName}
use Rattle.page_frames.specs.declared.frame.Flags.{Flags}
use Rattle.page_frames.specs.declared.frame.TheConstants.{FEWEST_FRAMES, MOST_FRAMES}
use Rattle.page_frames.specs.Pools.{Frame, Pool, IsTaken, frame_at, frame_in, with_frame, without_frame}
use Rattle.page_frames.specs.Pools as frames
use Rattle.page_frames.proofs.FrameLemmas.{frame_at-with_frame-same, frame_at-with_frame-other, frame_at-without_frame-other, len-with_frame-free, len-with_frame-taken, len-without_frame}
use Rattle.page_frames.proofs.PoolLemmas.{some_mapped}
use Rattle.page_cache.specs.declared.slots.PageName.{PageName}
use Rattle.page_cache.specs.Caches.{Resident, Cached, IsCache, IsFrame, is_of, is_page, is_in, page_at, page_in}
use Rattle.page_cache.specs.Changes.{changed_if, changed_in, without_page, without_object, spliced, with_flags, with_bytes, used}
use Rattle.page_cache.specs.Insides.{Slot, IsIndex, is_beyond, same_name, slot_is, slot_in, seen, cache_of, slot_limit, IsSound}
use Rattle.uid_names.proofs.Finds.{find-passes}
use Rattle.uid_names.proofs.ListLemmas.{by_cases, count_by-cons_passes, count_by-cons_fails, count_by-none, count_by-found, filter_not-none, length-filter_not, count_by-filter-le, filter-filter_leaves, find_once, count_by-found_by, count_by-filter_found, count_by-to_front, find-map, filter-map, count_by-map}
use Rattle.uid_names.proofs.Passed.{equal}
use Rattle.lru.specs.LruCache.{promoted}
use Rattle.page_cache.proofs.SlotLemmas.{slot_is-uid, slot_is-page, lookup-page, promoted-page, promoted-absent}

-- a taken frame has one slot at most, a free one none
slot_limit-le : (pool : Pool) (frame : ℕ) → slot_limit pool frame ≤ 1
slot_limit-le pool frame = by_cases (is_some (frame_at pool frame)) (slot_limit pool frame ≤ 1) (λ is. rw is (omega arith)) (λ is. rw is (omega arith))

-- a free frame has no slot
slot_limit-free : (pool : Pool) (frame : ℕ) → frame_at pool frame ≡ None → slot_limit pool frame ≡ 0
slot_limit-free pool frame free = rw free refl

-- a frame that may have a slot is taken
pub slot_limit-taken : (pool : Pool) (frame : ℕ) → 0 < slot_limit pool frame → IsTaken pool frame
slot_limit-taken pool frame some = by_cases (is_some (frame_at pool frame)) (IsTaken pool frame) (λ is. is) (λ is. absurd (let h : 0 < 0 = rw is at some in omega arith))

-- what no mapped value comes from
pub none_mapped : {X Y : Type 0} (f : X → Y) (o : Option X) → option_map f o ≡ None → o ≡ None
none_mapped f None none = refl
none_mapped f (Some x) none = absurd (cc)

-- the value that a mapped value comes from
pub mapped_from : {X Y : Type 0} (f : X → Y) (o : Option X) (y : Y) → option_map f o ≡ Some y → (x : X) × (o ≡ Some x) × (f x ≡ y)
mapped_from f None y found = absurd (cc)
mapped_from f (Some x) y found = (x, refl, cc)

-- and is not where the value is not
pub IfNone-mapped : {X Y : Type 0} (f : X → Y) (o : Option X) → IfNone (option_map f o) (o ≡ None)
IfNone-mapped f None = refl
IfNone-mapped f (Some x) = tt

-- a frame has as many slots as it may have: those of taken frames alone, one each
abbrev pub AreTaken : Pool → List Slot → Type 0
AreTaken pool slots = (frame : ℕ) → count_by (slot_in frame) slots ≤ slot_limit pool frame

module _ (pool : Pool) (slots : List Slot) where
  -- a page is where its slot is
  pub page_at-seen : (uid : ObjectName) (page : ℕ) → page_at (map (seen pool) slots) uid page ≡ option_map (seen pool) (find (slot_is uid page) slots)
  page_at-seen uid page = find-map (seen pool) (is_page uid page) slots

  -- and is in the frame of its slot
  pub page_in-seen : (frame : ℕ) → page_in (map (seen pool) slots) frame ≡ option_map (seen pool) (find (slot_in frame) slots)
  page_in-seen frame = find-map (seen pool) (is_in frame) slots

module _ (pool : Pool) (reserved : ℕ) (slots : List Slot) (places : ℕ) (index : List Slot) (sound : IsSound pool reserved slots places index) where
  -- what the parts stand for keeps what each cache keeps
  pub IsCache-sound : IsCache (cache_of pool reserved slots)
  IsCache-sound = record {
    few = sound.few;
    many = sound.many;
    room = rw length-map sound.room;
    pages = λ uid page. rw (count_by-map (seen pool) (is_page uid page) slots) (sound.pages uid page);
    frames = λ frame. rw (count_by-map (seen pool) (is_in frame) slots) (omega (arith, sound.frames frame, slot_limit-le pool frame));
  }

  -- a slot's frame is taken
  pub IsTaken-slot : (p : Slot → Bool) (s : Slot) → find p slots ≡ Some s → IsTaken pool s.1
  IsTaken-slot p s found =
      slot_limit-taken pool s.1 (omega (arith, sound.frames s.1, count_by-found_by p (slot_in s.1) slots s found (grind (arith, nat_tests))))

  -- so is a frame in which a page is
  pub IsTaken-frame : (frame : ℕ) → IsFrame (map (seen pool) slots) frame → IsTaken pool frame
  IsTaken-frame frame is =
      let found = some_mapped (seen pool) (find (slot_in frame) slots) (rw (page_in-seen pool slots frame) at is) in
      rw (equal found.0.1 frame (find-passes (slot_in frame) slots found.0 found.1)) at (IsTaken-slot (slot_in frame) found.0 found.1)

  -- the order finds the frame in which the page is
  pub frame-ordered : (name : PageName) → lookup (same_name name) slots ≡ option_map (λ r. r.frame) (page_at (map (seen pool) slots) name.uid name.page)
  frame-ordered name = lookup-page name slots ∙ by_slot (find (slot_is name.uid name.page) slots) ∙ ap (option_map (λ r. r.frame)) (sym (page_at-seen pool slots name.uid name.page))
    where
      by_slot : (o : Option Slot) → option_map (λ s. s.1) o ≡ option_map (λ r. r.frame) (option_map (seen pool) o)
      by_slot None = refl
      by_slot (Some s) = refl

  -- that frame is the page's
  page_in-slot : (name : PageName) (s : Slot) → find (slot_is name.uid name.page) slots ≡ Some s → page_in (map (seen pool) slots) s.1 ≡ Some (seen pool s)
  page_in-slot name s found =
      let once : count_by (slot_in s.1) slots ≤ 1 = omega (arith, sound.frames s.1, slot_limit-le pool s.1) in
      page_in-seen pool slots s.1 ∙ ap (option_map (seen pool)) (find_once (slot_is name.uid name.page) (slot_in s.1) slots s once found (grind (arith, nat_tests)))

  -- so it has the page that has the name
  pub page_in-ordered : (name : PageName) → IfSome (lookup (same_name name) slots) (λ frame. page_in (map (seen pool) slots) frame ≡ page_at (map (seen pool) slots) name.uid name.page)
  page_in-ordered name = by_slot (find (slot_is name.uid name.page) slots) refl
    where
      by_slot : (o : Option Slot) → find (slot_is name.uid name.page) slots ≡ o → IfSome (lookup (same_name name) slots) (λ frame. page_in (map (seen pool) slots) frame ≡ page_at (map (seen pool) slots) name.uid name.page)
      by_slot None none = rw (lookup-page name slots, none) tt
      by_slot (Some s) found =
          rw (lookup-page name slots, found) (page_in-slot name s found ∙ sym (page_at-seen pool slots name.uid name.page ∙ ap (option_map (seen pool)) found))

  -- and is a page's frame
  pub IsFrame-ordered : (name : PageName) → IfSome (lookup (same_name name) slots) (IsFrame (map (seen pool) slots))
  IsFrame-ordered name = by_slot (find (slot_is name.uid name.page) slots) refl
    where
      by_slot : (o : Option Slot) → find (slot_is name.uid name.page) slots ≡ o → IfSome (lookup (same_name name) slots) (IsFrame (map (seen pool) slots))
      by_slot None none = rw (lookup-page name slots, none) tt
      by_slot (Some s) found = rw (lookup-page name slots, found, page_in-slot name s found) refl

  -- the page in a frame has what the frame has
  pub page_in-frame : (frame : ℕ) → IsFrame (map (seen pool) slots) frame → (r : Resident) × (page_in (map (seen pool) slots) frame ≡ Some r) × (r.bytes ≡ (frame_in pool frame).bytes) × (r.flags ≡ (frame_in pool frame).flags)
  page_in-frame frame is =
      let found = some_mapped (seen pool) (find (slot_in frame) slots) (rw (page_in-seen pool slots frame) at is) in
      let same : found.0.1 ≡ frame = equal found.0.1 frame (find-passes (slot_in frame) slots found.0 found.1) in (
        seen pool found.0,
        page_in-seen pool slots frame ∙ ap (option_map (seen pool)) found.1,
        ap (λ n. (frame_in pool n).bytes) same,
        ap (λ n. (frame_in pool n).flags) same,
      )

-- a resident page has a slot
pub slot_at : (pool : Pool) (slots : List Slot) (uid : ObjectName) (page : ℕ) → IsSome (page_at (map (seen pool) slots) uid page) → (s : Slot) × (find (slot_is uid page) slots ≡ Some s)
slot_at pool slots uid page there = some_mapped (seen pool) (find (slot_is uid page) slots) (rw (page_at-seen pool slots uid page) at there)

-- and another page has none
pub slot_at-absent : (pool : Pool) (slots : List Slot) (uid : ObjectName) (page : ℕ) → page_at (map (seen pool) slots) uid page ≡ None → find (slot_is uid page) slots ≡ None
slot_at-absent pool slots uid page none = none_mapped (seen pool) (find (slot_is uid page) slots) (sym (page_at-seen pool slots uid page) ∙ none)

-- the parts stay sound with another index of the same slots
pub IsSound-reindexed : (pool : Pool) (reserved : ℕ) (slots : List Slot) (places : ℕ) (index after : List Slot) → IsSound pool reserved slots places index → IsIndex after slots → IsSound pool reserved slots places after
IsSound-reindexed pool reserved slots places index after sound same = record {
  few = sound.few;
  many = sound.many;
  room = sound.room;
  placed = sound.placed;
  counted = sound.counted;
  frames = sound.frames;
  pages = sound.pages;
  numbered = sound.numbered;
  indexed = same;
}

-- a pool that changes at one frame shows the same pages, where none is in it
module _ (old new : Pool) (n : ℕ) (others : (q : ℕ) → q ≢ n → frame_at new q ≡ frame_at old q) where
  seen-elsewhere : (s : Slot) → slot_in n s ≡ false → seen new s ≡ seen old s
  seen-elsewhere s apart =
      let differs : s.1 ≢ n = grind (arith, nat_tests) in
      ap (λ (f : Frame). record { uid = s.0.uid; page = s.0.page; frame = s.1; bytes = f.bytes; flags = f.flags }) (rw (others s.1 differs) refl)

  -- all pages look as before
  pub map-seen-elsewhere : (slots : List Slot) → count_by (slot_in n) slots ≡ 0 → map (seen new) slots ≡ map (seen old) slots
  map-seen-elsewhere [] none = refl
  map-seen-elsewhere (s ∷ slots) none =
      by_cases
      (slot_in n s)
      (map (seen new) (s ∷ slots) ≡ map (seen old) (s ∷ slots))
      (λ is. absurd (omega (arith, count_by-cons_passes (slot_in n) s slots is)))
      (λ apart. rw (seen-elsewhere s apart, map-seen-elsewhere slots (omega (arith, count_by-cons_fails (slot_in n) s slots apart))) refl)

-- the pages, where a frame holds something else
module _ (pool : Pool) (n : ℕ) (f : Frame) (change : Resident → Resident) (changes : (s : Slot) → s.1 ≡ n → record { uid = s.0.uid; page = s.0.page; frame = s.1; bytes = f.bytes; flags = f.flags } ≡ change (seen pool s)) where
  seen-changed : (s : Slot) → seen (with_frame pool n f) s ≡ changed_if (slot_in n s) change (seen pool s)
  seen-changed s =
      by_cases
      (slot_in n s)
      (seen (with_frame pool n f) s ≡ changed_if (slot_in n s) change (seen pool s))
      (λ is. let same : s.1 ≡ n = equal s.1 n is in rw is (rw (same, frame_at-with_frame-same pool n f) (rw same at (changes s same))))
      (λ apart. rw apart (seen-elsewhere pool (with_frame pool n f) n (λ q differs. frame_at-with_frame-other pool n q f differs) s apart))

  -- all pages look as before but the one in the frame
  pub map-seen-changed : (slots : List Slot) → map (seen (with_frame pool n f)) slots ≡ changed_in n change (map (seen pool) slots)
  map-seen-changed [] = refl
  map-seen-changed (s ∷ slots) = rw (seen-changed s, map-seen-changed slots) refl

-- the pages, where the frame has other flags
pub map-seen-flags : (pool : Pool) (n : ℕ) (flags : Flags) (slots : List Slot) → map (seen (frames.with_flags pool n flags)) slots ≡ with_flags (map (seen pool) slots) n flags
map-seen-flags pool n flags slots = map-seen-changed pool n (record (frame_in pool n) { flags = flags }) (λ r. record r { flags = flags }) (λ s same. rw same refl) slots

-- the pages, where the frame has other bytes at an offset
pub map-seen-bytes : (pool : Pool) (n offset : ℕ) (bytes all : List ℕ) (slots : List Slot) → all ≡ spliced (frame_in pool n).bytes offset bytes → map (seen (frames.with_bytes pool n all)) slots ≡ with_bytes (map (seen pool) slots) n offset bytes
map-seen-bytes pool n offset bytes all slots is =
    map-seen-changed pool n (record (frame_in pool n) { bytes = all }) (λ r. record r { bytes = spliced r.bytes offset bytes }) (λ s same. rw (is, same) refl) slots

-- the parts stay sound where a taken frame holds something else
pub IsSound-with_frame : (pool : Pool) (reserved : ℕ) (slots : List Slot) (places : ℕ) (index : List Slot) (n : ℕ) (f : Frame) → IsSound pool reserved slots places index → IsTaken pool n → IsSound (with_frame pool n f) reserved slots places index
IsSound-with_frame pool reserved slots places index n f sound taken = record {
  few = sound.few;
  many = sound.many;
  room = sound.room;
  placed = sound.placed;
  counted = len-with_frame-taken pool n f taken ∙ sound.counted;
  frames = λ frame. elim (cases_eq frame n) [
    | inl same ↦ rw (same, frame_at-with_frame-same pool n f) (omega (arith, sound.frames n, slot_limit-le pool n))
    | inr differs ↦ rw (frame_at-with_frame-other pool n frame f differs) (sound.frames frame)
  ];
  pages = sound.pages;
  numbered = sound.numbered;
  indexed = sound.indexed;
}

-- the parts of an empty cache are sound
pub IsSound-empty : (count places : ℕ) (index : List Slot) → FEWEST_FRAMES ≤ count → count ≤ MOST_FRAMES → count ≤ places → index ≡ [] → IsSound (record { count = count; taken = empty }) 0 [] places index
IsSound-empty count places index few many placed none = record {
  few = few;
  many = many;
  room = omega arith;
  placed = placed;
  counted = len-empty nat_cmp Frame;
  frames = λ frame. omega arith;
  pages = λ uid page. omega arith;
  numbered = refl;
  indexed = λ test. ap (λ (xs : List Slot). count_by test xs) none;
}

-- a page is installed in a frame that was free
module _ (pool : Pool) (reserved : ℕ) (slots : List Slot) (places : ℕ) (index : List Slot) (sound : IsSound pool reserved slots places index) (s : Slot) (f : Frame) (free : frame_at pool s.1 ≡ None) (absent : page_at (map (seen pool) slots) s.0.uid s.0.page ≡ None) where
  none_in_frame : count_by (slot_in s.1) slots ≡ 0
  none_in_frame = omega (arith, sound.frames s.1, slot_limit-free pool s.1 free)

  -- no slot is of the page
  none_of_page : count_by (slot_is s.0.uid s.0.page) slots ≡ 0
  none_of_page = count_by-none (slot_is s.0.uid s.0.page) slots (none_mapped (seen pool) (find (slot_is s.0.uid s.0.page) slots) (sym (page_at-seen pool slots s.0.uid s.0.page) ∙ absent))

  -- the frame has one slot
  frame-installed : count_by (slot_in s.1) (s ∷ slots) ≤ slot_limit (with_frame pool s.1 f) s.1
  frame-installed =
      let one = count_by-cons_passes (slot_in s.1) s slots (grind (arith, nat_tests)) in
      rw (frame_at-with_frame-same pool s.1 f) (omega (arith, one, none_in_frame))

  -- no frame has more slots than it may have
  frames-installed : (frame : ℕ) → count_by (slot_in frame) (s ∷ slots) ≤ slot_limit (with_frame pool s.1 f) frame
  frames-installed frame = elim (cases_eq frame s.1) [
    | inl same ↦ subst (λ (q : ℕ). count_by (slot_in q) (s ∷ slots) ≤ slot_limit (with_frame pool s.1 f) q) (sym same) frame-installed
    | inr differs ↦ rw (frame_at-with_frame-other pool s.1 frame f differs) (omega (arith, count_by-cons_fails (slot_in frame) s slots (grind (arith, nat_tests)), sound.frames frame))
  ]

  -- each page has one slot at most
  pages-installed : (uid : ObjectName) (page : ℕ) → count_by (slot_is uid page) (s ∷ slots) ≤ 1
  pages-installed uid page =
      by_cases
      (slot_is uid page s)
      (count_by (slot_is uid page) (s ∷ slots) ≤ 1)
      (λ is.
      let none : count_by (slot_is uid page) slots ≡ 0 = rw (slot_is-uid uid page s is, slot_is-page uid page s is) at none_of_page in
      omega (arith, count_by-cons_passes (slot_is uid page) s slots is))
      (λ fails. omega (arith, count_by-cons_fails (slot_is uid page) s slots fails, sound.pages uid page))

  -- the parts stay sound
  pub IsSound-installed : (after : List Slot) → 0 < reserved → s.0.page < 4294967296 → IsIndex after (s ∷ slots) → IsSound (with_frame pool s.1 f) (reserved - 1) (s ∷ slots) places after
  IsSound-installed after some fits same = record {
    few = sound.few;
    many = sound.many;
    room = omega (arith, sound.room);
    placed = sound.placed;
    counted = omega (arith, len-with_frame-free pool s.1 f free, sound.counted);
    frames = frames-installed;
    pages = pages-installed;
    numbered = count_by-cons_fails is_beyond s slots (grind (arith, nat_tests)) ∙ sound.numbered;
    indexed = same;
  }

  -- the page is in front of the others
  pub map-seen-installed : map (seen (with_frame pool s.1 f)) (s ∷ slots) ≡ record { uid = s.0.uid; page = s.0.page; frame = s.1; bytes = f.bytes; flags = f.flags } ∷ map (seen pool) slots
  map-seen-installed =
      rw (
        frame_at-with_frame-same pool s.1 f,
        map-seen-elsewhere pool (with_frame pool s.1 f) s.1 (λ q differs. frame_at-with_frame-other pool s.1 q f differs) slots none_in_frame,
      ) refl

-- a page comes to the front
module _ (pool : Pool) (reserved : ℕ) (slots : List Slot) (places : ℕ) (index : List Slot) (sound : IsSound pool reserved slots places index) (uid : ObjectName) (page : ℕ) (s : Slot) (found : find (slot_is uid page) slots ≡ Some s) where
  pub length-others : suc (length (filter (λ x. not (slot_is uid page x)) slots)) ≡ length slots
  length-others = omega (arith, length-filter_not (slot_is uid page) slots, sound.pages uid page, count_by-found (slot_is uid page) slots s found)

  -- the parts stay sound
  pub IsSound-used : IsSound pool reserved (s ∷ filter (λ x. not (slot_is uid page x)) slots) places index
  IsSound-used = record {
    few = sound.few;
    many = sound.many;
    room = omega (arith, length-others, sound.room);
    placed = sound.placed;
    counted = omega (arith, length-others, sound.counted);
    frames = λ frame. rw (count_by-to_front (slot_is uid page) (slot_in frame) slots s found (sound.pages uid page)) (sound.frames frame);
    pages = λ u k. rw (count_by-to_front (slot_is uid page) (slot_is u k) slots s found (sound.pages uid page)) (sound.pages u k);
    numbered = count_by-to_front (slot_is uid page) is_beyond slots s found (sound.pages uid page) ∙ sound.numbered;
    indexed = λ test. sound.indexed test ∙ sym (count_by-to_front (slot_is uid page) test slots s found (sound.pages uid page));
  }

  -- the page is in front of the others
  pub map-seen-used : map (seen pool) (s ∷ filter (λ x. not (slot_is uid page x)) slots) ≡ used (map (seen pool) slots) uid page
  map-seen-used = rw (page_at-seen pool slots uid page, found, filter-map (seen pool) (λ r. not (is_page uid page r)) slots) refl

  -- a page is resident no more, and its frame is free
  none_left : count_by (slot_in s.1) (filter (λ x. not (slot_is uid page x)) slots) ≡ 0
  none_left =
      omega (
        arith,
        count_by-filter_found (slot_is uid page) (slot_in s.1) slots s found (grind (arith, nat_tests)),
        sound.frames s.1,
        slot_limit-le pool s.1,
      )

  -- no frame has more slots than it may have
  frames-removed : (frame : ℕ) → count_by (slot_in frame) (filter (λ x. not (slot_is uid page x)) slots) ≤ slot_limit (without_frame pool s.1) frame
  frames-removed frame = elim (cases_eq frame s.1) [
    | inl same ↦ subst (λ (q : ℕ). count_by (slot_in q) (filter (λ x. not (slot_is uid page x)) slots) ≤ slot_limit (without_frame pool s.1) q) (sym same) (omega (arith, none_left))
    | inr differs ↦ rw (frame_at-without_frame-other pool s.1 frame differs) (omega (arith, count_by-filter-le (slot_in frame) (λ x. not (slot_is uid page x)) slots, sound.frames frame))
  ]

  -- the parts stay sound
  pub IsSound-removed : (after : List Slot) → IsIndex after (filter (λ x. not (slot_is uid page x)) slots) → IsSound (without_frame pool s.1) reserved (filter (λ x. not (slot_is uid page x)) slots) places after
  IsSound-removed after same = record {
    few = sound.few;
    many = sound.many;
    room = omega (arith, length-others, sound.room);
    placed = sound.placed;
    counted = omega (arith, len-without_frame pool s.1 (IsTaken-slot pool reserved slots places index sound (slot_is uid page) s found), length-others, sound.counted);
    frames = frames-removed;
    pages = λ u k. omega (arith, count_by-filter-le (slot_is u k) (λ x. not (slot_is uid page x)) slots, sound.pages u k);
    numbered = omega (arith, count_by-filter-le is_beyond (λ x. not (slot_is uid page x)) slots, sound.numbered);
    indexed = same;
  }

  -- the others stay as they are
  pub map-seen-removed : map (seen (without_frame pool s.1)) (filter (λ x. not (slot_is uid page x)) slots) ≡ without_page (map (seen pool) slots) uid page
  map-seen-removed =
      map-seen-elsewhere pool (without_frame pool s.1) s.1 (λ q differs. frame_at-without_frame-other pool s.1 q differs) (filter (λ x. not (slot_is uid page x)) slots) none_left
      ∙ sym (filter-map (seen pool) (λ r. not (is_page uid page r)) slots)

-- a page that is not resident is in no slot
module _ (pool : Pool) (slots : List Slot) (uid : ObjectName) (page : ℕ) (none : find (slot_is uid page) slots ≡ None) where
  pub filter-absent : filter (λ x. not (slot_is uid page x)) slots ≡ slots
  filter-absent = filter_not-none (slot_is uid page) slots (count_by-none (slot_is uid page) slots none)

  -- so nothing goes with it
  pub without_page-absent : without_page (map (seen pool) slots) uid page ≡ map (seen pool) slots
  without_page-absent = filter-map (seen pool) (λ r. not (is_page uid page r)) slots ∙ ap (map (seen pool)) filter-absent

-- caches of the same pages
pub same_cache : (frames reserved : ℕ) (ps qs : List Resident) → ps ≡ qs → ◌≡◌ {A = Cached} (record { frames = frames; reserved = reserved; pages = ps }) (record { frames = frames; reserved = reserved; pages = qs })
same_cache frames reserved ps qs same = rw same refl

-- the name of a page
abbrev pub name_of_page : ObjectName → ℕ → PageName
name_of_page uid page = record { uid = uid; page = page }

-- a page comes to the front where it is resident
module _ (pool : Pool) (reserved : ℕ) (slots : List Slot) (places : ℕ) (index : List Slot) (sound : IsSound pool reserved slots places index) (uid : ObjectName) (page : ℕ) where
  pub IsSound-promoted : IsSound pool reserved (promoted (same_name (name_of_page uid page)) slots) places index
  IsSound-promoted = by_slot (find (slot_is uid page) slots) refl
    where
      by_slot : (o : Option Slot) → find (slot_is uid page) slots ≡ o → IsSound pool reserved (promoted (same_name (name_of_page uid page)) slots) places index
      by_slot None none = rw (promoted-absent (name_of_page uid page) slots none) sound
      by_slot (Some s) found = rw (promoted-page (name_of_page uid page) slots s found (sound.pages uid page)) (IsSound-used pool reserved slots places index sound uid page s found)

  pub map-seen-promoted : map (seen pool) (promoted (same_name (name_of_page uid page)) slots) ≡ used (map (seen pool) slots) uid page
  map-seen-promoted = by_slot (find (slot_is uid page) slots) refl
    where
      absent : find (slot_is uid page) slots ≡ None → page_at (map (seen pool) slots) uid page ≡ None
      absent none = page_at-seen pool slots uid page ∙ ap (option_map (seen pool)) none

      by_slot : (o : Option Slot) → find (slot_is uid page) slots ≡ o → map (seen pool) (promoted (same_name (name_of_page uid page)) slots) ≡ used (map (seen pool) slots) uid page
      by_slot None none =
          rw (promoted-absent (name_of_page uid page) slots none, absent none)
          (sym (filter_not-none (is_page uid page) (map (seen pool) slots) (count_by-none (is_page uid page) (map (seen pool) slots) (absent none))))
      by_slot (Some s) found = rw (promoted-page (name_of_page uid page) slots s found (sound.pages uid page)) (map-seen-used pool reserved slots places index sound uid page s found)

  -- its slot is found as before
  pub lookup-promoted : lookup (same_name (name_of_page uid page)) (promoted (same_name (name_of_page uid page)) slots) ≡ lookup (same_name (name_of_page uid page)) slots
  lookup-promoted = by_slot (find (slot_is uid page) slots) refl
    where
      by_slot : (o : Option Slot) → find (slot_is uid page) slots ≡ o → lookup (same_name (name_of_page uid page)) (promoted (same_name (name_of_page uid page)) slots) ≡ lookup (same_name (name_of_page uid page)) slots
      by_slot None none = rw (promoted-absent (name_of_page uid page) slots none) refl
      by_slot (Some s) found =
          rw (promoted-page (name_of_page uid page) slots s found (sound.pages uid page), lookup-page (name_of_page uid page) (s ∷ filter (λ x. not (slot_is uid page x)) slots), lookup-page (name_of_page uid page) slots, found, find-passes (slot_is uid page) slots s found) refl

-- a cache is known by its three parts
pub cache_from_fields : (c : Cached) (frames reserved : ℕ) (ps : List Resident) → c.frames ≡ frames → c.reserved ≡ reserved → c.pages ≡ ps → ◌≡◌ {A = Cached} c (record { frames = frames; reserved = reserved; pages = ps })
cache_from_fields c frames reserved ps f r p = λ i. record { frames = f i; reserved = r i; pages = p i }

-- an object's page, one by one, is no page of the others
module _ (pages : List Resident) (uid : ObjectName) where
  pub without_object-without_page : (page : ℕ) → without_object (without_page pages uid page) uid ≡ without_object pages uid
  without_object-without_page page = filter-filter_leaves (λ r. not (is_of uid r)) (λ r. not (is_page uid page r)) (λ r other. rw (not-true (is_of uid r) other) refl) pages

  -- nothing goes where the object has no page
  pub without_object-none : find (is_of uid) pages ≡ None → without_object pages uid ≡ pages
  without_object-none none = filter_not-none (is_of uid) pages (count_by-none (is_of uid) pages none)

  -- a page less is left
  pub length-without_page : (page : ℕ) → IsSome (page_at pages uid page) → length (without_page pages uid page) < length pages
  length-without_page page there = by_page (page_at pages uid page) refl there
    where
      by_page : (o : Option Resident) → page_at pages uid page ≡ o → IsSome o → length (without_page pages uid page) < length pages
      by_page None none there = absurd (cc)
      by_page (Some r) found there = omega (arith, count_by-found (is_page uid page) pages r found, length-filter_not (is_page uid page) pages)
