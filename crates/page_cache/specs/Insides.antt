-- The cache that a pool, an order of slots and an index stand for. It decides nothing that a caller sees: only the
-- bodies and the model of `Cache` speak of it.
use Rattle.std.specs.Prelude.{◌≡◌, ℕ, ◌+◌, ◌≤◌, Bool, not, ◌&&◌, ◌==◌, nat_le, List, length, map, count_by, is_some, if◌then◌else◌}
use Rattle.std.specs.BTreeMap.Range.{range_contains}
use Rattle.std.specs.declared.cmp.Ordering.{Ordering}
use Rattle.std.specs.declared.ops.Bound.{Bound}
use Rattle.std.specs.declared.ops.Bound.TheVariants.{Included}
use Rattle.std.specs.FinMap.{len}
use Rattle.std.specs.Ordering.{nat_cmp, ordering_then}
use Rattle.uid_names.specs.Names.{ObjectName, same_uid}
use Rattle.page_frames.specs.declared.frame.Flags.{Flags}
use Rattle.page_frames.specs.declared.frame.TheConstants.{FEWEST_FRAMES, MOST_FRAMES}
use Rattle.page_frames.specs.Pools.{Pool, frame_at, frame_in}
use Rattle.page_cache.specs.declared.slots.PageName.{PageName}
use Rattle.page_cache.specs.Caches.{Resident, Cached}
use Rattle.page_cache.specs.Victims.{is_clean_choice}

-- a slot: the name of a resident page, and its frame
abbrev pub Slot : Type 0
Slot = PageName × ℕ

-- whether two names are of one page
abbrev pub same_name : PageName → PageName → Bool
same_name a b = same_uid a.uid b.uid && (a.page == b.page)

-- the order of names: by object, then by number
abbrev pub name_cmp : PageName → PageName → Ordering
name_cmp a b = ordering_then (ordering_then (nat_cmp a.uid.counter b.uid.counter) (nat_cmp a.uid.home b.uid.home)) (nat_cmp a.page b.page)

-- whether the slot is of this page
abbrev pub slot_is : ObjectName → ℕ → Slot → Bool
slot_is uid page s = same_uid s.0.uid uid && (s.0.page == page)

-- whether the slot has this frame
abbrev pub slot_in : ℕ → Slot → Bool
slot_in frame s = s.1 == frame

-- the least and the greatest name of a page of this object
abbrev pub first_name : ObjectName → Bound PageName
first_name uid = Included (record { uid = uid; page = 0 })

abbrev pub last_name : ObjectName → Bound PageName
last_name uid = Included (record { uid = uid; page = 4294967295 })

-- whether the name is between the two
abbrev pub is_between : ObjectName → PageName → Bool
is_between uid name = range_contains name_cmp (first_name uid) (last_name uid) name

-- whether the page has a number that no page has
abbrev pub is_beyond : Slot → Bool
is_beyond s = nat_le 4294967296 s.0.page

-- a slot's page, as its frame has it
abbrev pub seen : Pool → Slot → Resident
seen pool s =
    record {
      uid = s.0.uid;
      page = s.0.page;
      frame = s.1;
      bytes = (frame_in pool s.1).bytes;
      flags = (frame_in pool s.1).flags;
    }

-- the cache of this pool, so many reservations and these slots
abbrev pub cache_of : Pool → ℕ → List Slot → Cached
cache_of pool reserved slots = record { frames = pool.count; reserved = reserved; pages = map (seen pool) slots }

-- whether a page with these flags is clean and not in transit
abbrev pub are_clean : Flags → Bool
are_clean flags = not flags.dirty && not flags.transit

-- how many of the slots' pages are clean and not in transit
abbrev pub clean_count : Pool → List Slot → ℕ
clean_count pool slots = count_by is_clean_choice (map (seen pool) slots)

-- as many slots as a frame may have: one where it is taken
abbrev pub slot_limit : Pool → ℕ → ℕ
slot_limit pool frame = if is_some (frame_at pool frame) then 1 else 0

-- the index has the same slots
abbrev pub IsIndex : List Slot → List Slot → Type 0
IsIndex index slots = (test : Slot → Bool) → count_by test index ≡ count_by test slots

-- what holds of the parts: the slots and the taken frames are as many, a slot's frame is taken, each frame
-- and each page has one slot, the index has the same slots, and there is room in the order for all frames
pub record IsSound (pool : Pool) (reserved : ℕ) (slots : List Slot) (places : ℕ) (index : List Slot) : Type 0 where
  pub few : FEWEST_FRAMES ≤ pool.count
  pub many : pool.count ≤ MOST_FRAMES
  pub room : length slots + reserved ≤ pool.count
  pub placed : pool.count ≤ places
  pub counted : len pool.taken ≡ length slots
  pub frames : (frame : ℕ) → count_by (slot_in frame) slots ≤ slot_limit pool frame
  pub pages : (uid : ObjectName) (page : ℕ) → count_by (slot_is uid page) slots ≤ 1
  pub numbered : count_by is_beyond slots ≡ 0
  pub indexed : IsIndex index slots
