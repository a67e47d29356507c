-- What holds after a load, a store, or a call on a length or a mapping that begins, or goes on after a wait.
use Rattle.std.proofs.Common.{◌≡◌, ℕ, ◌+◌, ◌-◌, ◌*◌, ◌/◌, ◌%◌, ◌<◌, ◌≤◌, nat_lt, Bool, true, false, List, [], ◌∷◌, length, Option, Some, None, IfSome, IsSome, refl, sym, ap, arith}
use Rattle.std.specs.Prelude.{not, ◌&&◌, is_some, All, find, map}
use Rattle.std.proofs.lemmas.Bool.Decides.{nat_tests}
use Rattle.std.proofs.lemmas.Option.{same_Some}
use Rattle.uid_names.specs.Names.{ObjectName}
use Rattle.uid_names.specs.Segments.{segments, is_free_run as is_free_among}
use Rattle.uid_names.proofs.Runs.{starts-below}
use Rattle.std.proofs.lemmas.List.Elements.{All-head, All-tail}
use Rattle.uid_names.specs.declared.limits.TheConstants.{MAX_LENGTH, MAX_ROOM, PAGE_BYTES}
use Rattle.dom_history.specs.declared.op.Op.{Op}
use Rattle.dom_history.specs.declared.op.Op.TheVariants.{New, Lock, Unlock, Delete, Load, Store, Length, Map, Unmap, List as ListOp}
use Rattle.dom_history.specs.declared.op.Reply.{Reply}
use Rattle.dom_history.specs.declared.op.Spot.{Spot}
use Rattle.dom_history.specs.declared.op.Spot.TheVariants.{Of, Addr}
use Rattle.dom_history.specs.Ranges.{IsInPage, IsOp}
use Rattle.dom_history.specs.Fitting.{is_map_reply}
use Rattle.dom_history.specs.Locks.{is_held}
use Rattle.dom_history.specs.Replies.{may_write}
use Rattle.dom_history.proofs.Fitting.{fits-size, fits-at}
use Rattle.uid_names.proofs.Finds.{find-passes}
use Rattle.uid_names.proofs.ListLemmas.{by_cases}
use Rattle.address_map.specs.declared.mapping.Mapping.{Mapping}
use Rattle.address_map.specs.Mappings.{is_of, stretch_of, lies_in, mapping_of, mapping_at, target_in, without_mapping}
use Rattle.address_map.specs.Runs.{lowest_run}
use Rattle.address_map.specs.Maps.{IsMapping, is_full, map_answer, mappings_after}
use Rattle.fault_handler.specs.declared.entries.LockEntry.{LockEntry}
use Rattle.fault_handler.specs.declared.lengths.Known.{Known}
use Rattle.fault_handler.specs.declared.tasks.Work.{Work}
use Rattle.fault_handler.specs.declared.tasks.Work.TheVariants as works
use Rattle.fault_handler.specs.Entries.{state_in, is_released, keeps, keeps_writing}
use Rattle.fault_handler.specs.Lengths.{known_of, room_of, length_of}
use Rattle.fault_handler.specs.Desks.{DeskState, entry_at, maps_of, state_of}
use Rattle.fault_handler.specs.Changes.{with_maps}
use Rattle.fault_handler.specs.Accesses.{desk_op, map_reply, page_access, task_at, target_of, load_by, load_at, store_by, store_at, length_by, map_by, unmap_by, access_of}
use Rattle.fault_handler.specs.Invariant.{IsProc, IsKnown, IsAllowed, IsDesk}
use Rattle.fault_handler.specs.Conditions.{IsIdle}
use Rattle.fault_handler.specs.Next.{IsAt, IsAtOnce}
use Rattle.fault_handler.proofs.Outcomes.{IsAfter, Holds, Holds-more}
use Rattle.fault_handler.proofs.Accessing.{IsDoneAfter, ended-after, page_access-after}

-- an address lies in a page where its target does
address-start : (address first n : ℕ) → first * 32768 ≤ address → address % PAGE_BYTES + n ≤ PAGE_BYTES → (address - first * 32768) % PAGE_BYTES + n ≤ PAGE_BYTES
address-start address first n low within = omega (arith, low, within)

-- so does what a spot means
pub target-within : (d : DeskState) (p : ℕ) (spot : Spot) (n : ℕ) → IsInPage spot n → IfSome (target_of d p spot) (λ t. t.1 % PAGE_BYTES + n ≤ PAGE_BYTES)
target-within d p (Of u offset) n is = is.1
target-within d p (Addr address) n is = by_mapping (mapping_at address (maps_of d p)) refl
  where
    by_mapping : (o : Option Mapping) → mapping_at address (maps_of d p) ≡ o → IfSome (target_in address o) (λ t. t.1 % PAGE_BYTES + n ≤ PAGE_BYTES)
    by_mapping None found = tt
    by_mapping (Some m) found =
        let within : lies_in address m ≡ true = find-passes (lies_in address) (maps_of d p) m found in
        let low : m.first * 32768 ≤ address = grind (arith, nat_tests, within) in
        address-start address m.first n low is.1

-- what is known of an object is in its ranges
length-known : (o : Option Known) → IfSome o IsKnown → length_of o ≤ MAX_LENGTH
length-known None is = omega arith
length-known (Some k) is = is.length

pub room-known : (o : Option Known) → IfSome o IsKnown → room_of o ≤ MAX_ROOM
room-known None is = omega arith
room-known (Some k) is = is.room.1

-- a place within the greatest length lies in one of the pages of the greatest room
page-within : (offset n : ℕ) → 1 ≤ n → offset + n ≤ MAX_LENGTH → offset / PAGE_BYTES < MAX_ROOM
page-within offset n some within = omega (arith, some, within)

-- a process that keeps an object and is Held in a mode that writes keeps it in that mode
pub keeps-writes : (o : Option LockEntry) → keeps o ≡ true → may_write (state_in o) ≡ true → keeps_writing o ≡ true
keeps-writes o kept writes = let a : (is_held (state_in o) && not (is_released o)) ≡ true = kept in let b : not (is_released o) ≡ true = grind (arith, nat_tests, a) in rw (writes, b) refl

-- a load or store is at its spot
spot-at : (d : DeskState) (p : ℕ) (spot : Spot) (t : ObjectName × ℕ) (work : Work) → target_of d p spot ≡ Some t → IsAt spot (task_at t.0 t.1 work)
spot-at d p (Of u offset) t work found = let same : (u, offset) ≡ t = same_Some (u, offset) t found in (sym (ap (λ (x : ObjectName × ℕ). x.0) same), sym (ap (λ (x : ObjectName × ℕ). x.1) same))
spot-at d p (Addr address) t work found = tt

module _ (d : DeskState) (p : ℕ) (is : IsDesk d) (proc : IsProc p) (idle : IsIdle d p) where
  module _ (u : ObjectName) (offset count : ℕ) (some : 1 ≤ count) (within : offset % PAGE_BYTES + count ≤ PAGE_BYTES) where
    -- a load that passed its tests is allowed
    pub load-allowed : is_held (state_of d p u) ≡ true → nat_lt (length_of (known_of u d.known)) (offset + count) ≡ false → IsAllowed d.entries p (task_at u offset (works.Load count))
    load-allowed held inside =
        let length = length-known (known_of u d.known) (is.known.rows u) in
        let end : offset + count ≤ length_of (known_of u d.known) = grind (arith, nat_tests, inside) in
        record {
          range = record { some = some; within = within; page = page-within offset count some (omega arith) };
          kept = idle.keeping u held;
          mode = tt;
        }

    load_by-after : (spot : Spot) → IsAt spot (task_at u offset (works.Load count)) → (held past : Bool) → is_held (state_of d p u) ≡ held → nat_lt (length_of (known_of u d.known)) (offset + count) ≡ past
        → Holds p (IsAfter d.node d.nodes p (Load spot count)) (load_by d p (task_at u offset (works.Load count)) held past)
    load_by-after spot spots false past h e = ended-after d p (Load spot count) Reply.NoLock idle refl
    load_by-after spot spots true true h e = ended-after d p (Load spot count) Reply.PastEnd idle refl
    load_by-after spot spots true false h e =
        Holds-more p (IsDoneAfter d.node d.nodes p (Load spot count)) (IsAfter d.node d.nodes p (Load spot count)) (page_access d p (task_at u offset (works.Load count))) (λ m done. done.0)
        (page_access-after d p (task_at u offset (works.Load count)) is proc idle (load-allowed h e) (Load spot count) (spots, refl))

  module _ (u : ObjectName) (offset : ℕ) (bytes : List ℕ) (some : 1 ≤ length bytes) (within : offset % PAGE_BYTES + length bytes ≤ PAGE_BYTES) where
    -- a store that passed its tests is allowed
    pub store-allowed : is_held (state_of d p u) ≡ true → may_write (state_of d p u) ≡ true → nat_lt (PAGE_BYTES * room_of (known_of u d.known)) (offset + length bytes) ≡ false → IsAllowed d.entries p (task_at u offset (works.Store bytes))
    store-allowed held writes inside =
        let room = room-known (known_of u d.known) (is.known.rows u) in
        let end : offset + length bytes ≤ PAGE_BYTES * room_of (known_of u d.known) = grind (arith, nat_tests, inside) in
        record {
          range = record { some = some; within = within; page = page-within offset (length bytes) some (omega arith) };
          kept = idle.keeping u held;
          mode = keeps-writes (entry_at d.entries p u) (idle.keeping u held) writes;
        }

    store_by-after : (spot : Spot) → IsAt spot (task_at u offset (works.Store bytes)) → (held writes past : Bool) → is_held (state_of d p u) ≡ held → may_write (state_of d p u) ≡ writes
        → nat_lt (PAGE_BYTES * room_of (known_of u d.known)) (offset + length bytes) ≡ past → Holds p (IsAfter d.node d.nodes p (Store spot bytes)) (store_by d p (task_at u offset (works.Store bytes)) held writes past)
    store_by-after spot spots false writes past h w e = ended-after d p (Store spot bytes) Reply.NoLock idle refl
    store_by-after spot spots true false past h w e = ended-after d p (Store spot bytes) Reply.WrongMode idle refl
    store_by-after spot spots true true true h w e = ended-after d p (Store spot bytes) Reply.PastRoom idle refl
    store_by-after spot spots true true false h w e =
        Holds-more p (IsDoneAfter d.node d.nodes p (Store spot bytes)) (IsAfter d.node d.nodes p (Store spot bytes)) (page_access d p (task_at u offset (works.Store bytes))) (λ m done. done.0)
        (page_access-after d p (task_at u offset (works.Store bytes)) is proc idle (store-allowed h w e) (Store spot bytes) (spots, refl))

  -- a load or store at what its spot means: only an address can mean nothing
  load_at-after : (spot : Spot) (count : ℕ) → IsInPage spot count → Holds p (IsAfter d.node d.nodes p (Load spot count)) (load_at d p count (target_of d p spot))
  load_at-after spot count range = by_target spot (target_of d p spot) refl (target-within d p spot count range)
    where
      by_target : (s : Spot) (t : Option (ObjectName × ℕ)) → target_of d p s ≡ t → IfSome t (λ x. x.1 % PAGE_BYTES + count ≤ PAGE_BYTES) → Holds p (IsAfter d.node d.nodes p (Load s count)) (load_at d p count t)
      by_target (Of u offset) None found within = absurd (cc)
      by_target (Addr address) None found within = ended-after d p (Load (Addr address) count) Reply.NotMapped idle refl
      by_target s (Some t) found within = load_by-after t.0 t.1 count range.0 within s (spot-at d p s t (works.Load count) found) (is_held (state_of d p t.0)) (nat_lt (length_of (known_of t.0 d.known)) (t.1 + count)) refl refl

  store_at-after : (spot : Spot) (bytes : List ℕ) → IsInPage spot (length bytes) → Holds p (IsAfter d.node d.nodes p (Store spot bytes)) (store_at d p bytes (target_of d p spot))
  store_at-after spot bytes range = by_target spot (target_of d p spot) refl (target-within d p spot (length bytes) range)
    where
      by_target : (s : Spot) (t : Option (ObjectName × ℕ)) → target_of d p s ≡ t → IfSome t (λ x. x.1 % PAGE_BYTES + length bytes ≤ PAGE_BYTES) → Holds p (IsAfter d.node d.nodes p (Store s bytes)) (store_at d p bytes t)
      by_target (Of u offset) None found within = absurd (cc)
      by_target (Addr address) None found within = ended-after d p (Store (Addr address) bytes) Reply.NotMapped idle refl
      by_target s (Some t) found within =
          store_by-after t.0 t.1 bytes range.0 within s (spot-at d p s t (works.Store bytes) found) (is_held (state_of d p t.0)) (may_write (state_of d p t.0)) (nat_lt (PAGE_BYTES * room_of (known_of t.0 d.known)) (t.1 + length bytes)) refl refl refl

  length_by-after : (u : ObjectName) (held : Bool) → Holds p (IsAfter d.node d.nodes p (Length u)) (length_by d u held)
  length_by-after u false = ended-after d p (Length u) Reply.NoLock idle refl
  length_by-after u true = ended-after d p (Length u) _ idle (fits-size (length_of (known_of u d.known)) (length-known (known_of u d.known) (is.known.rows u)))

  -- a mapping changes nothing of what lets a process go on
  IsIdle-with_maps : (maps : List Mapping) → IsIdle (with_maps d p maps) p
  IsIdle-with_maps maps = record { no_call = idle.no_call; no_page = idle.no_page; keeping = idle.keeping }

-- a room is one page or more
room-least : (o : Option Known) → IsSome o → IfSome o IsKnown → 1 ≤ room_of o
room-least None some is = absurd (cc)
room-least (Some k) some is = is.room.0

module _ (d : DeskState) (p : ℕ) (is : IsDesk d) (proc : IsProc p) (idle : IsIdle d p) where
  -- the room of an object on which a process is Held is a page or more
  pub room-held : (u : ObjectName) → is_held (state_of d p u) ≡ true → 1 ≤ room_of (known_of u d.known)
  room-held u held = room-least (known_of u d.known) (is.known.both u (is.known.kept p proc u (idle.keeping u held))) (is.known.rows u)

  -- the room of an object on which a process is Held takes a segment or more
  pub segments-least : (u : ObjectName) → is_held (state_of d p u) ≡ true → 1 ≤ segments (room_of (known_of u d.known))
  segments-least u held =
      let room = room-least (known_of u d.known) (is.known.both u (is.known.kept p proc u (idle.keeping u held))) (is.known.rows u) in
      omega arith

-- what holds of each holds of the one that is found
found-holds : {A : Type 0} (P : A → Type 0) (test : A → Bool) (xs : List A) → All P xs → IfSome (find test xs) P
found-holds P test [] all = tt
found-holds P test (x ∷ xs) all =
    by_cases
    (test x)
    (IfSome (find test (x ∷ xs)) P)
    (λ passes. rw passes (All-head P x xs all))
    (λ fails. rw fails (found-holds P test xs (All-tail P x xs all)))

-- the address of a mapping is one of a segment
first-start : (first : ℕ) → first * 32768 % 32768 ≡ 0
first-start first = omega arith

map_reply-fits : (o : Option Mapping) (full : Bool) (run : Option ℕ) → IfSome o IsMapping → IfSome run (λ first. first < 256) → is_map_reply (map_reply (map_answer o full run)) ≡ true
map_reply-fits (Some m) full run is below = fits-at (m.first * 32768) false (first-start m.first) (omega (arith, is.some, is.within))
map_reply-fits None true run is below = refl
map_reply-fits None false None is below = refl
map_reply-fits None false (Some first) is below = fits-at (first * 32768) true (first-start first) (omega (arith, below))

-- the lowest run begins at one of the segments
run-below : (count : ℕ) (maps : List Mapping) → IfSome (lowest_run count maps) (λ first. first < 256)
run-below count maps = by_run (lowest_run count maps) refl
  where
    by_run : (o : Option ℕ) → lowest_run count maps ≡ o → IfSome o (λ first. first < 256)
    by_run None found = tt
    by_run (Some first) found = starts-below first (λ k. is_free_among count k (map stretch_of maps)) found

module _ (d : DeskState) (p : ℕ) (is : IsDesk d) (proc : IsProc p) (idle : IsIdle d p) where
  map_by-after : (u : ObjectName) (held : Bool) → is_held (state_of d p u) ≡ held → Holds p (IsAfter d.node d.nodes p (Map u)) (map_by d p u held)
  map_by-after u false h = ended-after d p (Map u) Reply.NoLock idle refl
  map_by-after u true h =
      let count = segments (room_of (known_of u d.known)) in
      let maps = mappings_after u count (mapping_of u (maps_of d p)) (is_full (maps_of d p)) (lowest_run count (maps_of d p)) (maps_of d p) in
      ended-after (with_maps d p maps) p (Map u) (map_reply (map_answer (mapping_of u (maps_of d p)) (is_full (maps_of d p)) (lowest_run count (maps_of d p))))
      (IsIdle-with_maps d p is proc idle maps)
      (map_reply-fits (mapping_of u (maps_of d p)) (is_full (maps_of d p)) (lowest_run count (maps_of d p)) (found-holds IsMapping (is_of u) (maps_of d p) (is.maps p proc).each) (run-below count (maps_of d p)))

  unmap_by-after : (u : ObjectName) (there : Bool) → Holds p (IsAfter d.node d.nodes p (Unmap u)) (unmap_by d p u there)
  unmap_by-after u false = ended-after d p (Unmap u) Reply.NotMapped idle refl
  unmap_by-after u true =
      ended-after (with_maps d p (without_mapping u (maps_of d p))) p (Unmap u) Reply.Fine
      (IsIdle-with_maps d p is proc idle (without_mapping u (maps_of d p))) refl

  -- an access leaves a desk, asks what a home can be asked, replies what its operation can have, and its process is idle
  -- or its call stands
  pub access_of-after : (op : Op) → IsOp op → IfSome (desk_op op) (λ o. Holds p (IsAfter d.node d.nodes p op) (access_of d p o))
  access_of-after (Load spot count) range = load_at-after d p is proc idle spot count range.1
  access_of-after (Store spot bytes) range = store_at-after d p is proc idle spot bytes range.1
  access_of-after (Length u) range = length_by-after d p is proc idle u (is_held (state_of d p u))
  access_of-after (Map u) range = map_by-after u (is_held (state_of d p u)) refl
  access_of-after (Unmap u) range = unmap_by-after u (is_some (mapping_of u (maps_of d p)))
  access_of-after (New home kind room) range = tt
  access_of-after (Lock u m) range = tt
  access_of-after (Unlock u) range = tt
  access_of-after (Delete u) range = tt
  access_of-after (ListOp home after) range = tt

  length_by-once : (u : ObjectName) (held : Bool) → Holds p (λ m. IsAtOnce (Length u) m.turn) (length_by d u held)
  length_by-once u false = tt
  length_by-once u true = tt

  map_by-once : (u : ObjectName) (held : Bool) → Holds p (λ m. IsAtOnce (Map u) m.turn) (map_by d p u held)
  map_by-once u false = tt
  map_by-once u true = tt

  unmap_by-once : (u : ObjectName) (there : Bool) → Holds p (λ m. IsAtOnce (Unmap u) m.turn) (unmap_by d p u there)
  unmap_by-once u false = tt
  unmap_by-once u true = tt

  -- a length or a mapping is answered at once
  pub access_of-once : (op : Op) → IsOp op → IfSome (desk_op op) (λ o. Holds p (λ m. IsAtOnce op m.turn) (access_of d p o))
  access_of-once (Load spot count) range =
      Holds-more p (IsAfter d.node d.nodes p (Load spot count)) (λ m. IsAtOnce (Load spot count) m.turn) (load_at d p count (target_of d p spot)) (λ m done. tt) (load_at-after d p is proc idle spot count range.1)
  access_of-once (Store spot bytes) range =
      Holds-more p (IsAfter d.node d.nodes p (Store spot bytes)) (λ m. IsAtOnce (Store spot bytes) m.turn) (store_at d p bytes (target_of d p spot)) (λ m done. tt) (store_at-after d p is proc idle spot bytes range.1)
  access_of-once (Length u) range = length_by-once u (is_held (state_of d p u))
  access_of-once (Map u) range = map_by-once u (is_held (state_of d p u))
  access_of-once (Unmap u) range = unmap_by-once u (is_some (mapping_of u (maps_of d p)))
  access_of-once (New home kind room) range = tt
  access_of-once (Lock u m) range = tt
  access_of-once (Unlock u) range = tt
  access_of-once (Delete u) range = tt
  access_of-once (ListOp home after) range = tt
