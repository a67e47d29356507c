-- What was answered keeps rooms, lengths and addresses in their ranges, so that each reply fits.
use Rattle.std.proofs.Common.{◌≡◌, ◌<◌, ◌≤◌, ◌+◌, ◌*◌, ◌%◌, ℕ, zero, suc, Bool, true, false, List, [], ◌∷◌, ◌++◌, length, max, refl, subst, arith}
use Rattle.std.specs.Prelude.{All, Option, Some, None, find, filter, not, if◌then◌else◌, nat_lt}
use Rattle.std.proofs.lemmas.Bool.Decides.{nat_tests}
use Rattle.std.proofs.lemmas.List.Elements.{All-cons, All-nil, All-head, All-tail, All-push, All-filter, All-append}
use Rattle.uid_names.specs.Names.{ProcName, ObjectName, same_proc, same_uid}
use Rattle.uid_names.specs.Rooms.{IsLength}
use Rattle.uid_names.specs.Openings.{Start, IsStart}
use Rattle.uid_names.specs.declared.opening.Object.{Object}
use Rattle.uid_names.specs.declared.limits.TheConstants.{MAX_ROOM, PAGE_BYTES, MAX_LENGTH}
use Rattle.dom_history.specs.declared.op.Spot.{Spot}
use Rattle.dom_history.specs.declared.op.Op.{Op}
use Rattle.dom_history.specs.declared.op.Op.TheVariants.{New, Lock, Unlock, Delete, Store, Length, Map, Unmap}
use Rattle.dom_history.specs.declared.op.Reply.{Reply}
use Rattle.dom_history.specs.declared.op.Reply.TheVariants.{Made, Fine, At, NoLock, WrongMode, PastRoom}
use Rattle.dom_history.specs.declared.deed.Deed.{Deed}
use Rattle.dom_history.specs.StoreEffects.{StoreEffect, Makes, TakesLock, FreesLock, Deletes, Writes, Maps, Unmaps, store_effect, store_effects}
use Rattle.uid_names.specs.Beginnings.{entry_directory}
use Rattle.dom_history.specs.Objects.{made, room_of, room_or_none, entry_directories}
use Rattle.dom_history.specs.Bytes.{length_of, end_after}
use Rattle.uid_names.specs.declared.segment.TheConstants.{SEGMENT_SIZE, SEGMENTS}
use Rattle.dom_history.specs.Mappings.{Mapping, mappings, Target, target}
use Rattle.dom_history.specs.Ranges.{IsOp}
use Rattle.dom_history.specs.Fitting.{Fits, is_map_reply}
use Rattle.dom_history.specs.Replies.{Before, before_of, reply_of, store_reply, map_reply}
use Rattle.dom_history.specs.Runs.{AreAnswered}
use Rattle.dom_history.proofs.ReplyRows.{found, length_reply-one, map_reply-one}
use Rattle.dom_history.proofs.Fitting.{fits-size, fits-at}
use Rattle.dom_history.proofs.Fits.{reply_of-fits}

-- an address at which a segment begins
abbrev pub IsSegmentStart : ℕ → Type 0
IsSegmentStart a = (a % SEGMENT_SIZE ≡ 0) × (a < SEGMENTS * SEGMENT_SIZE)

-- rooms, lengths and addresses are in their ranges
pub record AreBounded (opening : Start) (past : List StoreEffect) : Type 0 where
  pub rooms : All (λ o. o.room ≤ MAX_ROOM) (made opening past)
  pub lengths : (u : ObjectName) → IsLength (length_of opening past u)
  pub addresses : (p : ProcName) → All (λ m. IsSegmentStart m.address) (mappings p past)

-- a room that a choice gives is in range
room_by : (n : ℕ) (b : Bool) (o : Object) (rest : Option Object) → o.room ≤ n → room_or_none rest ≤ n → room_or_none (if b then Some o else rest) ≤ n
room_by n true o rest h k = h
room_by n false o rest h k = k

-- a room that is looked up is in range
found_room : (n : ℕ) (t : Object → Bool) (objects : List Object) → All (λ o. o.room ≤ n) objects → room_or_none (find t objects) ≤ n
found_room n t [] h = omega arith
found_room n t (o ∷ objects) h =
    room_by n (t o) o (find t objects) (All-head (λ q. q.room ≤ n) o objects h) (found_room n t objects (All-tail (λ q. q.room ≤ n) o objects h))

-- a greatest end is within what bounds both
max_bounded : (b : Bool) (m n limit : ℕ) → m ≤ limit → n ≤ limit → (if b then max m n else m) ≤ limit
max_bounded true m n limit h k = grind (arith, h, k)
max_bounded false m n limit h k = h

-- the end of a store within a room of that object
end_bounded : (t : Option Target) (bytes : List ℕ) (u : ObjectName) (before limit : ℕ) → before ≤ limit → ((s : Target) → t ≡ Some s → s.offset + length bytes ≤ limit) → end_after t bytes u before ≤ limit
end_bounded None bytes u before limit h fits = h
end_bounded (Some t) bytes u before limit h fits = max_bounded (same_uid t.uid u) before (t.offset + length bytes) limit h (fits t refl)

-- a store ends within the room where it is answered Fine
refused_past_room : (a b c : Bool) → Fine ≡ (if a then NoLock else if b then WrongMode else if c then PastRoom else Fine) → c ≡ false
refused_past_room true b c e = absurd cc
refused_past_room false true c e = absurd cc
refused_past_room false false true e = absurd cc
refused_past_room false false false e = refl

-- a store that is answered Fine ends within the room
stored_in_room : (b : Before) (t : Option Target) (bytes : List ℕ) → Fine ≡ store_reply b t bytes → (s : Target) → t ≡ Some s → s.offset + length bytes ≤ PAGE_BYTES * room_of b.opening b.past s.uid
stored_in_room b None bytes e s is = absurd cc
stored_in_room b (Some t) bytes e s is =
    let fits : nat_lt (PAGE_BYTES * room_of b.opening b.past t.uid) (t.offset + length bytes) ≡ false = refused_past_room _ _ _ e in
    let within : t.offset + length bytes ≤ PAGE_BYTES * room_of b.opening b.past t.uid = grind (arith, nat_tests, fits) in
    let same : t ≡ s = cc in
    subst (λ s. s.offset + length bytes ≤ PAGE_BYTES * room_of b.opening b.past s.uid) same within

-- a run of segments begins at one
run_starts_segment : (n : ℕ) → n < SEGMENTS → IsSegmentStart (n * SEGMENT_SIZE)
run_starts_segment n h = (grind (arith, h), omega (arith, h))

-- a mapping that is new begins at a segment
mapped_at_start : (b : Before) (p : ProcName) (u : ObjectName) (a : ℕ) → At a true ≡ map_reply b p u → IsSegmentStart a
mapped_at_start b p u a =
    map_reply-one (λ r. At a true ≡ r → IsSegmentStart a) b p u
    (λ e. absurd cc) (λ m is e. absurd cc) (λ e. absurd cc) (λ e. absurd cc)
    (λ n small e. let same : a ≡ n * SEGMENT_SIZE = cc in rw same (run_starts_segment n small))

module _ (opening : Start) (past : List StoreEffect) (h : AreBounded opening past) where
  -- a new object keeps the bounds
  makes_bounded : (o : Object) → o.room ≤ MAX_ROOM → AreBounded opening (Makes o ∷ past)
  makes_bounded o room = record { rooms = All-push (λ q. q.room ≤ MAX_ROOM) (made opening past) o h.rooms room; lengths = h.lengths; addresses = h.addresses }

  -- and so does a store within its room
  writes_bounded : (p : ProcName) (spot : Spot) (bytes : List ℕ) → ((t : Target) → target opening past p spot ≡ Some t → t.offset + length bytes ≤ PAGE_BYTES * room_of opening past t.uid) → AreBounded opening (Writes p spot bytes ∷ past)
  writes_bounded p spot bytes fits = record {
    rooms = h.rooms;
    lengths = λ u. end_bounded (target opening past p spot) bytes u (length_of opening past u) MAX_LENGTH (h.lengths u)
        (λ t is. let within = fits t is in let room = found_room MAX_ROOM (λ o. same_uid o.uid t.uid) (made opening past) h.rooms in omega (arith, within, room));
    addresses = h.addresses;
  }

  -- a mapping more
  with_mapping : (b : Bool) (m : Mapping) (rest : List Mapping) → IsSegmentStart m.address → All (λ n. IsSegmentStart n.address) rest → All (λ n. IsSegmentStart n.address) (if b then m ∷ rest else rest)
  with_mapping true m rest start others = All-cons (λ n. IsSegmentStart n.address) m rest start others
  with_mapping false m rest start others = others

  -- some mappings less
  without_mapping : (b : Bool) (t : Mapping → Bool) (rest : List Mapping) → All (λ n. IsSegmentStart n.address) rest → All (λ n. IsSegmentStart n.address) (if b then filter t rest else rest)
  without_mapping true t rest others = All-filter t (λ n. IsSegmentStart n.address) rest others
  without_mapping false t rest others = others

  -- a mapping at a segment keeps the bounds
  maps_bounded : (p : ProcName) (u : ObjectName) (a : ℕ) → IsSegmentStart a → AreBounded opening (Maps p u a ∷ past)
  maps_bounded p u a start = record {
    rooms = h.rooms;
    lengths = h.lengths;
    addresses = λ q. with_mapping (same_proc q p) (record { uid = u; address = a }) (mappings q past) start (h.addresses q);
  }

  -- and so does its end
  unmaps_bounded : (p : ProcName) (u : ObjectName) → AreBounded opening (Unmaps p u ∷ past)
  unmaps_bounded p u = record {
    rooms = h.rooms;
    lengths = h.lengths;
    addresses = λ q. without_mapping (same_proc q p) (λ m. not (same_uid u m.uid)) (mappings q past) (h.addresses q);
  }

  -- and so does what leaves objects, lengths and mappings
  locks_bounded : (e : StoreEffect) → made opening (e ∷ past) ≡ made opening past → ((u : ObjectName) → length_of opening (e ∷ past) u ≡ length_of opening past u) → ((p : ProcName) → mappings p (e ∷ past) ≡ mappings p past) → AreBounded opening (e ∷ past)
  locks_bounded e objects lengths maps = record { rooms = rw objects h.rooms; lengths = λ u. rw (lengths u) (h.lengths u); addresses = λ p. rw (maps p) (h.addresses p) }

-- an answer keeps the bounds
answer_bounded : (b : Before) (p : ProcName) (op : Op) (reply : Reply) → IsOp op → reply ≡ reply_of b p op → AreBounded b.opening b.past → AreBounded b.opening (store_effect p op reply ++ b.past)
answer_bounded b p (New home kind room) (Made u) range e h = makes_bounded b.opening b.past h (record { uid = u; kind = kind; room = room }) range.1.1
answer_bounded b p (Lock u m) Fine range e h = locks_bounded b.opening b.past h (TakesLock p u m) refl (λ v. refl) (λ q. refl)
answer_bounded b p (Unlock u) Fine range e h = locks_bounded b.opening b.past h (FreesLock p u) refl (λ v. refl) (λ q. refl)
answer_bounded b p (Delete u) Fine range e h = locks_bounded b.opening b.past h (Deletes p u) refl (λ v. refl) (λ q. refl)
answer_bounded b p (Store spot bytes) Fine range e h = writes_bounded b.opening b.past h p spot bytes (stored_in_room b (target b.opening b.past p spot) bytes e)
answer_bounded b p (Map u) (At address true) range e h = maps_bounded b.opening b.past h p u address (mapped_at_start b p u address e)
answer_bounded b p (Unmap u) Fine range e h = unmaps_bounded b.opening b.past h p u
answer_bounded b p _ _ range e h = h

-- the rooms of entry directories are in range
entry_rooms : (n : ℕ) → All (λ o. o.room ≤ MAX_ROOM) (entry_directories n)
entry_rooms zero = All-nil (λ o. o.room ≤ MAX_ROOM)
entry_rooms (suc n) = All-push (λ o. o.room ≤ MAX_ROOM) (entry_directories n) (entry_directory (suc n)) (entry_rooms n) (omega arith)

-- an opening is in its bounds
opening_bounded : (opening : Start) → IsStart opening → AreBounded opening []
opening_bounded opening start = record {
  rooms = All-append (λ o. o.room ≤ MAX_ROOM) (entry_directories opening.nodes) opening.objects (entry_rooms opening.nodes)
      (λ k d below. let declared = start.objects k d below in omega (arith, declared.room_high, start.greatest_high));
  lengths = λ u. omega arith;
  addresses = λ p. All-nil (λ m. IsSegmentStart m.address);
}

-- and so is what was answered from there
pub past_bounded : (opening : Start) → IsStart opening → (past : List Deed) → AreAnswered opening past → All (λ d. IsOp d.op) past → AreBounded opening (store_effects past)
past_bounded opening start [] h ranges = opening_bounded opening start
past_bounded opening start (d ∷ past) h ranges =
    answer_bounded (before_of opening past d.proc) d.proc d.op d.reply (All-head (λ e. IsOp e.op) d past ranges) h.0
    (past_bounded opening start past h.1 (All-tail (λ e. IsOp e.op) d past ranges))

-- a segment that begins there is a reply to Map
start_fits : (a : ℕ) (fresh : Bool) → IsSegmentStart a → is_map_reply (At a fresh) ≡ true
start_fits a fresh start = fits-at a fresh start.0 start.1

-- over what keeps the bounds each reply fits
bounded-fits : (b : Before) (p : ProcName) (op : Op) → AreBounded b.opening b.past → Fits op (reply_of b p op)
bounded-fits b p (Length u) h = length_reply-one (Fits (Length u)) b u refl (fits-size (length_of b.opening b.past u) (h.lengths u))
bounded-fits b p (Map u) h =
    map_reply-one (Fits (Map u)) b p u refl
    (λ m is. start_fits m.address false (found (λ n. IsSegmentStart n.address) (λ n. same_uid u n.uid) (mappings p b.past) (h.addresses p) m is))
    refl refl (λ n small. start_fits (n * SEGMENT_SIZE) true (run_starts_segment n small))
bounded-fits b p op h = reply_of-fits b p op (λ u e. absurd cc) (λ u e. absurd cc)

-- over what was answered each reply fits
pub answered-fits : (opening : Start) → IsStart opening → (past : List Deed) → AreAnswered opening past → All (λ d. IsOp d.op) past → (p : ProcName) (op : Op) → Fits op (reply_of (before_of opening past p) p op)
answered-fits opening start past h ranges p op = bounded-fits (before_of opening past p) p op (past_bounded opening start past h ranges)
