-- Which replies an operation can have at all, those of a link fault included.
use Rattle.std.specs.Prelude.{ℕ, ◌*◌, ◌%◌, ◌==◌, nat_le, nat_lt, Bool, true, false, ◌&&◌, IsTrue, length}
use Rattle.uid_names.specs.declared.limits.TheConstants.{LISTED_ROWS, MAX_LENGTH}
use Rattle.uid_names.specs.declared.segment.TheConstants.{SEGMENT_SIZE, SEGMENTS}
use Rattle.dom_history.specs.declared.op.Spot.{Spot}
use Rattle.dom_history.specs.declared.op.Spot.TheVariants.{Of, Addr}
use Rattle.dom_history.specs.declared.op.Op.{Op}
use Rattle.dom_history.specs.declared.op.Op.TheVariants.{New, Lock, Unlock, Delete, Load, Store, Length, Map, Unmap, List as ListOp}
use Rattle.dom_history.specs.declared.op.Reply.{Reply}
use Rattle.dom_history.specs.declared.op.Reply.TheVariants.{Made, Fine, Bytes, Size, At, Locks, Conflict, NoObject, AlreadyHeld, NotHeld, Unsettled, TooMany, NoLock, WrongMode, PastRoom, PastEnd, NoSpace, Kept, Doubt, LinkFault, TooManyMaps, NoSegment, NotMapped}

abbrev pub is_new_reply : Reply → Bool
is_new_reply (Made u) = true
is_new_reply NoSpace = true
is_new_reply LinkFault = true
is_new_reply _ = false

abbrev pub is_lock_reply : Reply → Bool
is_lock_reply AlreadyHeld = true
is_lock_reply Unsettled = true
is_lock_reply TooMany = true
is_lock_reply NoObject = true
is_lock_reply (Conflict q m) = true
is_lock_reply Doubt = true
is_lock_reply Fine = true
is_lock_reply _ = false

abbrev pub is_unlock_reply : Reply → Bool
is_unlock_reply NotHeld = true
is_unlock_reply Kept = true
is_unlock_reply Doubt = true
is_unlock_reply Fine = true
is_unlock_reply _ = false

abbrev pub is_delete_reply : Reply → Bool
is_delete_reply NoLock = true
is_delete_reply WrongMode = true
is_delete_reply Kept = true
is_delete_reply Doubt = true
is_delete_reply Fine = true
is_delete_reply _ = false

-- only an address can be unmapped
abbrev pub is_address : Spot → Bool
is_address (Of u o) = false
is_address (Addr a) = true

abbrev pub is_load_reply : Spot → ℕ → Reply → Bool
is_load_reply spot n NotMapped = is_address spot
is_load_reply spot n NoLock = true
is_load_reply spot n PastEnd = true
is_load_reply spot n LinkFault = true
is_load_reply spot n (Bytes bytes) = length bytes == n
is_load_reply spot n _ = false

abbrev pub is_store_reply : Spot → Reply → Bool
is_store_reply spot NotMapped = is_address spot
is_store_reply spot NoLock = true
is_store_reply spot WrongMode = true
is_store_reply spot PastRoom = true
is_store_reply spot LinkFault = true
is_store_reply spot Fine = true
is_store_reply spot _ = false

abbrev pub is_length_reply : Reply → Bool
is_length_reply NoLock = true
is_length_reply (Size n) = nat_le n MAX_LENGTH
is_length_reply _ = false

abbrev pub is_map_reply : Reply → Bool
is_map_reply NoLock = true
is_map_reply (At address fresh) = (address % SEGMENT_SIZE == 0) && nat_lt address (SEGMENTS * SEGMENT_SIZE)
is_map_reply TooManyMaps = true
is_map_reply NoSegment = true
is_map_reply _ = false

abbrev pub is_unmap_reply : Reply → Bool
is_unmap_reply NotMapped = true
is_unmap_reply Fine = true
is_unmap_reply _ = false

abbrev pub is_list_reply : Reply → Bool
is_list_reply LinkFault = true
is_list_reply (Locks rows more) = nat_le (length rows) LISTED_ROWS
is_list_reply _ = false

-- the test of a reply to an operation, which a program can make of what it is told
abbrev pub can_have : Op → Reply → Bool
can_have (New home kind room) reply = is_new_reply reply
can_have (Lock u m) reply = is_lock_reply reply
can_have (Unlock u) reply = is_unlock_reply reply
can_have (Delete u) reply = is_delete_reply reply
can_have (Load spot n) reply = is_load_reply spot n reply
can_have (Store spot bytes) reply = is_store_reply spot reply
can_have (Length u) reply = is_length_reply reply
can_have (Map u) reply = is_map_reply reply
can_have (Unmap u) reply = is_unmap_reply reply
can_have (ListOp home after) reply = is_list_reply reply

-- the operation can have this reply
abbrev pub Fits : Op → Reply → Type 0
Fits op reply = IsTrue (can_have op reply)
