-- The reply to each operation, over what stands before it. The first test of a row that holds decides.
use Rattle.std.specs.Prelude.{ℕ, ◌+◌, ◌*◌, nat_le, nat_lt, Bool, true, false, not, if◌then◌else◌, is_some, Option, Some, None, List, [], ◌∷◌, find, length, take}
use Rattle.uid_names.specs.Names.{ProcName, ObjectName, same_uid}
use Rattle.uid_names.specs.Modes.{mode_writes, mode_removes}
use Rattle.uid_names.specs.Openings.{Start}
use Rattle.uid_names.specs.Rows.{is_in_conflict, rows_after}
use Rattle.uid_names.specs.Segments.{segments}
use Rattle.uid_names.specs.declared.limits.TheConstants.{VOLUME_ROOM, PAGE_BYTES, PROCESS_LOCKS, PROCESS_MAPPINGS, LISTED_ROWS}
use Rattle.uid_names.specs.declared.segment.TheConstants.{SEGMENT_SIZE}
use Rattle.uid_names.specs.declared.lock_row.LockRow.{LockRow}
use Rattle.uid_names.specs.declared.mode.Mode.{Mode}
use Rattle.dom_history.specs.declared.op.Op.{Op}
use Rattle.dom_history.specs.declared.op.Op.TheVariants.{New, Lock, Unlock, Delete, Load, Store, Length, Map, Unmap, List as ListOp}
use Rattle.dom_history.specs.declared.op.Reply.{Reply}
use Rattle.dom_history.specs.declared.op.Reply.TheVariants.{Made, Fine, Bytes, Size, At, Locks, Conflict, NoObject, AlreadyHeld, NotHeld, Unsettled, TooMany, NoLock, WrongMode, PastRoom, PastEnd, NoSpace, Kept, Doubt, LinkFault, TooManyMaps, NoSegment, NotMapped}
use Rattle.dom_history.specs.declared.deed.Deed.{Deed}
use Rattle.dom_history.specs.declared.deed.LockState.{LockState}
use Rattle.dom_history.specs.declared.deed.LockState.TheVariants.{Free, Held}
use Rattle.dom_history.specs.StoreEffects.{StoreEffect, store_effects, own}
use Rattle.dom_history.specs.Objects.{is_node, is_present, room_of, room_taken, greatest_counter}
use Rattle.dom_history.specs.Locks.{state, is_free, is_held, is_unsettled, not_free, rows}
use Rattle.dom_history.specs.Mappings.{Mapping, mappings, Target, target, lowest_run}
use Rattle.dom_history.specs.Bytes.{length_of, bytes_from}

-- what stands before an operation of p: the effects of all deeds, and what p was told; the newest first
pub record Before : Type 0 where
  pub opening : Start
  pub past : List StoreEffect
  pub told : List Deed

abbrev pub new_reply : Before → ℕ → ℕ → Reply
new_reply b home room =
    if not (is_node b.opening home) then NoSpace
    else if nat_lt b.opening.greatest room then NoSpace
    else if nat_lt VOLUME_ROOM (room_taken b.opening b.past home + room) then NoSpace
    else Made (record { counter = greatest_counter b.opening b.past home + 1; home = home })

abbrev pub conflict_or_fine : Option LockRow → Reply
conflict_or_fine None = Fine
conflict_or_fine (Some row) = Conflict row.proc row.mode

-- what the home says to a lock
abbrev pub home_lock_reply : Start → List StoreEffect → ProcName → ObjectName → Mode → Reply
home_lock_reply opening past p u m =
    if not (is_present opening past u) then NoObject
    else conflict_or_fine (find (is_in_conflict p u m) (rows u.home past))

abbrev pub lock_reply : Before → ProcName → ObjectName → Mode → Reply
lock_reply b p u m =
    if is_held (state u b.told) then AlreadyHeld
    else if is_unsettled (state u b.told) then Unsettled
    else if nat_le PROCESS_LOCKS (length (not_free b.told)) then TooMany
    else home_lock_reply b.opening b.past p u m

abbrev pub unlock_reply : Before → ObjectName → Reply
unlock_reply b u = if is_free (state u b.told) then NotHeld else Fine

-- held in a mode that writes
abbrev pub may_write : LockState → Bool
may_write (Held m) = mode_writes m
may_write _ = false

-- held in a mode that removes
abbrev pub may_delete : LockState → Bool
may_delete (Held m) = mode_removes m
may_delete _ = false

abbrev pub delete_reply : Before → ObjectName → Reply
delete_reply b u =
    if not (is_held (state u b.told)) then NoLock
    else if not (may_delete (state u b.told)) then WrongMode
    else Fine

abbrev pub load_reply : Before → Option Target → ℕ → Reply
load_reply b None n = NotMapped
load_reply b (Some t) n =
    if not (is_held (state t.uid b.told)) then NoLock
    else if nat_lt (length_of b.opening b.past t.uid) (t.offset + n) then PastEnd
    else Bytes (bytes_from b.opening b.past t.uid t.offset n)

abbrev pub store_reply : Before → Option Target → List ℕ → Reply
store_reply b None bytes = NotMapped
store_reply b (Some t) bytes =
    if not (is_held (state t.uid b.told)) then NoLock
    else if not (may_write (state t.uid b.told)) then WrongMode
    else if nat_lt (PAGE_BYTES * room_of b.opening b.past t.uid) (t.offset + length bytes) then PastRoom
    else Fine

abbrev pub length_reply : Before → ObjectName → Reply
length_reply b u = if not (is_held (state u b.told)) then NoLock else Size (length_of b.opening b.past u)

abbrev pub run_or_none : Option ℕ → Reply
run_or_none None = NoSegment
run_or_none (Some first) = At (first * SEGMENT_SIZE) true

abbrev pub map_anew_reply : Before → ProcName → ObjectName → Option Mapping → Reply
map_anew_reply b p u (Some m) = At m.address false
map_anew_reply b p u None =
    if nat_le PROCESS_MAPPINGS (length (mappings p b.past)) then TooManyMaps
    else run_or_none (lowest_run b.opening b.past p (segments (room_of b.opening b.past u)))

abbrev pub mapping_of : Before → ProcName → ObjectName → Option Mapping
mapping_of b p u = find (λ m. same_uid u m.uid) (mappings p b.past)

abbrev pub map_reply : Before → ProcName → ObjectName → Reply
map_reply b p u =
    if not (is_held (state u b.told)) then NoLock
    else map_anew_reply b p u (mapping_of b p u)

abbrev pub unmap_reply : Before → ProcName → ObjectName → Reply
unmap_reply b p u = if not (is_some (mapping_of b p u)) then NotMapped else Fine

abbrev pub list_reply : List LockRow → Reply
list_reply listed = Locks (take LISTED_ROWS listed) (nat_lt LISTED_ROWS (length listed))

-- the reply of one store, without link faults
abbrev pub reply_of : Before → ProcName → Op → Reply
reply_of b p (New home kind room) = new_reply b home room
reply_of b p (Lock u m) = lock_reply b p u m
reply_of b p (Unlock u) = unlock_reply b u
reply_of b p (Delete u) = delete_reply b u
reply_of b p (Load spot n) = load_reply b (target b.opening b.past p spot) n
reply_of b p (Store spot bytes) = store_reply b (target b.opening b.past p spot) bytes
reply_of b p (Length u) = length_reply b u
reply_of b p (Map u) = map_reply b p u
reply_of b p (Unmap u) = unmap_reply b p u
reply_of b p (ListOp home after) = list_reply (rows_after after (rows home b.past))

-- what stands before the next operation of p, where every deed was told
abbrev pub before_of : Start → List Deed → ProcName → Before
before_of opening deeds p = record { opening = opening; past = store_effects deeds; told = own p deeds }

-- the state of p on the object that an operation unlocks
abbrev pub unlock_state : Op → List Deed → LockState
unlock_state (Unlock u) told = state u told
unlock_state _ told = Free

-- the replies of a link fault that may stand in place of a reply. An unlock is answered Kept only where
-- modified pages had to be sent home first
abbrev pub link_faults : Op → LockState → Reply → List Reply
link_faults (New home kind room) s NoSpace = LinkFault ∷ []
link_faults (New home kind room) s (Made u) = LinkFault ∷ []
link_faults (Lock u m) s NoObject = Doubt ∷ []
link_faults (Lock u m) s (Conflict q n) = Doubt ∷ []
link_faults (Lock u m) s Fine = Doubt ∷ []
link_faults (Unlock u) s Fine = if may_write s then Kept ∷ Doubt ∷ [] else Doubt ∷ []
link_faults (Delete u) s Fine = Kept ∷ Doubt ∷ []
link_faults (Load spot n) s (Bytes bytes) = LinkFault ∷ []
link_faults (Store spot bytes) s Fine = LinkFault ∷ []
link_faults (ListOp home after) s (Locks rows more) = LinkFault ∷ []
link_faults _ _ _ = []
