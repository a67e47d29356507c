-- The operations that are refused at their own node.
use Rattle.std.specs.Prelude.{◌≡◌, ℕ, ◌+◌, ◌*◌, nat_lt, true, false, Some, None, List, length, nat_le, is_some}
use Rattle.uid_names.specs.Names.{ObjectName}
use Rattle.uid_names.specs.declared.mode.Mode.{Mode}
use Rattle.uid_names.specs.declared.limits.TheConstants.{PAGE_BYTES, PROCESS_LOCKS}
use Rattle.dom_history.specs.declared.op.Reply.TheVariants as replies
use Rattle.dom_history.specs.Locks.{is_held, is_free, is_unsettled}
use Rattle.dom_history.specs.Replies.{may_write, may_delete}
use Rattle.address_map.specs.Mappings.{mapping_of}
use Rattle.fault_handler.specs.Lengths.{known_of, room_of, length_of}
use Rattle.fault_handler.specs.Desks.{DeskState, state_of, maps_of, is_node, entries_of}
use Rattle.fault_handler.specs.Accesses.{DeskOp, target_of}
use Rattle.lock_validate.specs.Causes.{Cause}
use Rattle.dom_history.specs.declared.op.Spot.{Spot}
use Rattle.dom_history.specs.declared.op.Reply.{Reply}

-- an operation that is refused at its node, by the first test that it fails
pub data Refuses (d : DeskState) (p : ℕ) : Cause → Reply → Type 0 where
  load_unmapped : (spot : Spot) (count : ℕ) → target_of d p spot ≡ None → Refuses d p (Cause.Accesses (DeskOp.Loads spot count)) replies.NotMapped
  load_unheld : (spot : Spot) (count : ℕ) (u : ObjectName) (offset : ℕ) → target_of d p spot ≡ Some (u, offset) → is_held (state_of d p u) ≡ false
      → Refuses d p (Cause.Accesses (DeskOp.Loads spot count)) replies.NoLock
  load_past_end : (spot : Spot) (count : ℕ) (u : ObjectName) (offset : ℕ) → target_of d p spot ≡ Some (u, offset) → is_held (state_of d p u) ≡ true
      → nat_lt (length_of (known_of u d.known)) (offset + count) ≡ true → Refuses d p (Cause.Accesses (DeskOp.Loads spot count)) replies.PastEnd
  store_unmapped : (spot : Spot) (bytes : List ℕ) → target_of d p spot ≡ None → Refuses d p (Cause.Accesses (DeskOp.Stores spot bytes)) replies.NotMapped
  store_unheld : (spot : Spot) (bytes : List ℕ) (u : ObjectName) (offset : ℕ) → target_of d p spot ≡ Some (u, offset) → is_held (state_of d p u) ≡ false
      → Refuses d p (Cause.Accesses (DeskOp.Stores spot bytes)) replies.NoLock
  store_mode : (spot : Spot) (bytes : List ℕ) (u : ObjectName) (offset : ℕ) → target_of d p spot ≡ Some (u, offset) → is_held (state_of d p u) ≡ true → may_write (state_of d p u) ≡ false
      → Refuses d p (Cause.Accesses (DeskOp.Stores spot bytes)) replies.WrongMode
  store_past_room : (spot : Spot) (bytes : List ℕ) (u : ObjectName) (offset : ℕ) → target_of d p spot ≡ Some (u, offset) → is_held (state_of d p u) ≡ true → may_write (state_of d p u) ≡ true
      → nat_lt (PAGE_BYTES * room_of (known_of u d.known)) (offset + length bytes) ≡ true → Refuses d p (Cause.Accesses (DeskOp.Stores spot bytes)) replies.PastRoom
  length_unheld : (u : ObjectName) → is_held (state_of d p u) ≡ false → Refuses d p (Cause.Accesses (DeskOp.Measures u)) replies.NoLock
  map_unheld : (u : ObjectName) → is_held (state_of d p u) ≡ false → Refuses d p (Cause.Accesses (DeskOp.Maps u)) replies.NoLock
  unmap_none : (u : ObjectName) → is_some (mapping_of u (maps_of d p)) ≡ false → Refuses d p (Cause.Accesses (DeskOp.Unmaps u)) replies.NotMapped
  lock_held : (u : ObjectName) (m : Mode) → is_held (state_of d p u) ≡ true → Refuses d p (Cause.Locks u m) replies.AlreadyHeld
  lock_unsettled : (u : ObjectName) (m : Mode) → is_held (state_of d p u) ≡ false → is_unsettled (state_of d p u) ≡ true → Refuses d p (Cause.Locks u m) replies.Unsettled
  lock_full : (u : ObjectName) (m : Mode) → is_free (state_of d p u) ≡ true → nat_le PROCESS_LOCKS (length (entries_of d p)) ≡ true → Refuses d p (Cause.Locks u m) replies.TooMany
  lock_elsewhere : (u : ObjectName) (m : Mode) → is_free (state_of d p u) ≡ true → nat_le PROCESS_LOCKS (length (entries_of d p)) ≡ false → is_node d.nodes u.home ≡ false
      → Refuses d p (Cause.Locks u m) replies.NoObject
  unlock_free : (u : ObjectName) → is_free (state_of d p u) ≡ true → Refuses d p (Cause.Releases false u) replies.NotHeld
  delete_unheld : (u : ObjectName) → is_held (state_of d p u) ≡ false → Refuses d p (Cause.Releases true u) replies.NoLock
  delete_mode : (u : ObjectName) → is_held (state_of d p u) ≡ true → may_delete (state_of d p u) ≡ false → Refuses d p (Cause.Releases true u) replies.WrongMode
