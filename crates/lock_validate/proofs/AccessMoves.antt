-- An operation that its own node answers is moves.
use Rattle.std.proofs.Common.{◌≡◌, ℕ, ◌+◌, ◌*◌, ◌%◌, ◌≤◌, nat_lt, Bool, true, false, List, length, Option, Some, None, IfSome, refl}
use Rattle.std.specs.Prelude.{is_some}
use Rattle.uid_names.specs.Names.{ObjectName}
use Rattle.uid_names.specs.declared.limits.TheConstants.{PAGE_BYTES}
use Rattle.dom_history.specs.declared.op.Spot.{Spot}
use Rattle.dom_history.specs.declared.op.Reply.{Reply}
use Rattle.dom_history.specs.Locks.{is_held}
use Rattle.dom_history.specs.Replies.{may_write}
use Rattle.dom_history.specs.Ranges.{IsOp}
use Rattle.address_map.specs.Mappings.{mapping_of}
use Rattle.fault_handler.specs.declared.tasks.Work.TheVariants.{Load, Store}
use Rattle.fault_handler.specs.Lengths.{known_of, room_of, length_of}
use Rattle.fault_handler.specs.Desks.{DeskState, maps_of, state_of}
use Rattle.fault_handler.specs.Outcomes.{ended}
use Rattle.fault_handler.specs.Accesses.{DeskOp, Always, task_at, target_of, load_by, load_at, store_by, store_at, length_by, map_by, unmap_by, access_of}
use Rattle.fault_handler.specs.Invariant.{IsProc, IsDesk}
use Rattle.fault_handler.specs.Conditions.{IsIdle}
use Rattle.fault_handler.proofs.Beginning.{target-within, load-allowed, store-allowed}
use Rattle.lock_validate.specs.Causes.{Cause, op_of}
use Rattle.lock_validate.specs.DeskMoves.{Change, DeskMoves}
use Rattle.lock_validate.specs.Refusals.{Refuses}
use Rattle.lock_validate.specs.Turns.{Says, IsMade}
use Rattle.lock_validate.proofs.PageMoves.{page_access-made}

-- where it is refused nothing changes
pub refused-made : (c : Cause) (p : ℕ) (d : DeskState) (reply : Reply) → Refuses d p c reply → IsMade c p d (ended d reply)
refused-made c p d reply refuses = record { moves = DeskMoves.none; says = Says.refuses c reply refuses refl; may = tt }

module _ (d : DeskState) (p : ℕ) (is : IsDesk d) (proc : IsProc p) (idle : IsIdle d p) where
  module _ (spot : Spot) (u : ObjectName) (offset : ℕ) (target : target_of d p spot ≡ Some (u, offset)) where
    load_by-made : (count : ℕ) → 1 ≤ count → offset % PAGE_BYTES + count ≤ PAGE_BYTES → (held past : Bool) → is_held (state_of d p u) ≡ held → nat_lt (length_of (known_of u d.known)) (offset + count) ≡ past
        → Always p (IsMade (Cause.Accesses (DeskOp.Loads spot count)) p d) (load_by d p (task_at u offset (Load count)) held past)
    load_by-made count some within false past h e = refused-made (Cause.Accesses (DeskOp.Loads spot count)) p d Reply.NoLock (Refuses.load_unheld spot count u offset target h)
    load_by-made count some within true true h e = refused-made (Cause.Accesses (DeskOp.Loads spot count)) p d Reply.PastEnd (Refuses.load_past_end spot count u offset target h e)
    load_by-made count some within true false h e =
        page_access-made (Cause.Accesses (DeskOp.Loads spot count)) p d d (task_at u offset (Load count)) (λ turn. DeskMoves.none)
        (record { idle = idle; allowed = load-allowed d p is proc idle u offset count some within h e; given = (target, refl, e) })
        (target, refl, e) proc is tt (λ v k may. may)

    store_by-made : (bytes : List ℕ) → 1 ≤ length bytes → offset % PAGE_BYTES + length bytes ≤ PAGE_BYTES → (held writes past : Bool) → is_held (state_of d p u) ≡ held → may_write (state_of d p u) ≡ writes
        → nat_lt (PAGE_BYTES * room_of (known_of u d.known)) (offset + length bytes) ≡ past
        → Always p (IsMade (Cause.Accesses (DeskOp.Stores spot bytes)) p d) (store_by d p (task_at u offset (Store bytes)) held writes past)
    store_by-made bytes some within false writes past h w e = refused-made (Cause.Accesses (DeskOp.Stores spot bytes)) p d Reply.NoLock (Refuses.store_unheld spot bytes u offset target h)
    store_by-made bytes some within true false past h w e = refused-made (Cause.Accesses (DeskOp.Stores spot bytes)) p d Reply.WrongMode (Refuses.store_mode spot bytes u offset target h w)
    store_by-made bytes some within true true true h w e = refused-made (Cause.Accesses (DeskOp.Stores spot bytes)) p d Reply.PastRoom (Refuses.store_past_room spot bytes u offset target h w e)
    store_by-made bytes some within true true false h w e =
        page_access-made (Cause.Accesses (DeskOp.Stores spot bytes)) p d d (task_at u offset (Store bytes)) (λ turn. DeskMoves.none)
        (record { idle = idle; allowed = store-allowed d p is proc idle u offset bytes some within h w e; given = (target, refl, e) })
        (target, refl, e) proc is tt (λ v k may. may)

  load_at-made : (spot : Spot) (count : ℕ) (t : Option (ObjectName × ℕ)) → target_of d p spot ≡ t → 1 ≤ count → IfSome t (λ x. x.1 % PAGE_BYTES + count ≤ PAGE_BYTES)
      → Always p (IsMade (Cause.Accesses (DeskOp.Loads spot count)) p d) (load_at d p count t)
  load_at-made spot count None found some within = refused-made (Cause.Accesses (DeskOp.Loads spot count)) p d Reply.NotMapped (Refuses.load_unmapped spot count found)
  load_at-made spot count (Some t) found some within =
      load_by-made spot t.0 t.1 found count some within (is_held (state_of d p t.0)) (nat_lt (length_of (known_of t.0 d.known)) (t.1 + count)) refl refl

  store_at-made : (spot : Spot) (bytes : List ℕ) (t : Option (ObjectName × ℕ)) → target_of d p spot ≡ t → 1 ≤ length bytes → IfSome t (λ x. x.1 % PAGE_BYTES + length bytes ≤ PAGE_BYTES)
      → Always p (IsMade (Cause.Accesses (DeskOp.Stores spot bytes)) p d) (store_at d p bytes t)
  store_at-made spot bytes None found some within = refused-made (Cause.Accesses (DeskOp.Stores spot bytes)) p d Reply.NotMapped (Refuses.store_unmapped spot bytes found)
  store_at-made spot bytes (Some t) found some within =
      store_by-made spot t.0 t.1 found bytes some within (is_held (state_of d p t.0)) (may_write (state_of d p t.0)) (nat_lt (PAGE_BYTES * room_of (known_of t.0 d.known)) (t.1 + length bytes)) refl refl refl

  length_by-made : (u : ObjectName) (held : Bool) → is_held (state_of d p u) ≡ held → Always p (IsMade (Cause.Accesses (DeskOp.Measures u)) p d) (length_by d u held)
  length_by-made u false h = refused-made (Cause.Accesses (DeskOp.Measures u)) p d Reply.NoLock (Refuses.length_unheld u h)
  length_by-made u true h = record { moves = DeskMoves.none; says = Says.measures u h; may = tt }

  map_by-made : (u : ObjectName) (held : Bool) → is_held (state_of d p u) ≡ held → Always p (IsMade (Cause.Accesses (DeskOp.Maps u)) p d) (map_by d p u held)
  map_by-made u false h = refused-made (Cause.Accesses (DeskOp.Maps u)) p d Reply.NoLock (Refuses.map_unheld u h)
  map_by-made u true h = record { moves = DeskMoves.next DeskMoves.none (Change.maps u refl idle h); says = Says.maps u h; may = tt }

  unmap_by-made : (u : ObjectName) (there : Bool) → is_some (mapping_of u (maps_of d p)) ≡ there → Always p (IsMade (Cause.Accesses (DeskOp.Unmaps u)) p d) (unmap_by d p u there)
  unmap_by-made u false h = refused-made (Cause.Accesses (DeskOp.Unmaps u)) p d Reply.NotMapped (Refuses.unmap_none u h)
  unmap_by-made u true h = record { moves = DeskMoves.next DeskMoves.none (Change.unmaps u refl idle h); says = Says.unmaps u h; may = tt }

  pub access_of-made : (op : DeskOp) → IsOp (op_of op) → Always p (IsMade (Cause.Accesses op) p d) (access_of d p op)
  access_of-made (DeskOp.Loads spot count) range = load_at-made spot count (target_of d p spot) refl range.1.0 (target-within d p spot count range.1)
  access_of-made (DeskOp.Stores spot bytes) range = store_at-made spot bytes (target_of d p spot) refl range.1.0 (target-within d p spot (length bytes) range.1)
  access_of-made (DeskOp.Measures u) range = length_by-made u (is_held (state_of d p u)) refl
  access_of-made (DeskOp.Maps u) range = map_by-made u (is_held (state_of d p u)) refl
  access_of-made (DeskOp.Unmaps u) range = unmap_by-made u (is_some (mapping_of u (maps_of d p))) refl
