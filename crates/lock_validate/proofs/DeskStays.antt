-- Each change keeps what each desk keeps.
use Rattle.std.proofs.Common.{◌≡◌, ℕ, ◌+◌, ◌<◌, ◌≤◌, Bool, true, false, List, [], length, Some, None, inl, refl, sym, subst, ◌∙◌, arith}
use Rattle.uid_names.specs.Names.{ObjectName}
use Rattle.uid_names.specs.Segments.{segments}
use Rattle.uid_names.specs.declared.limits.TheConstants.{MAX_LENGTH, MAX_ROOM, PAGE_BYTES}
use Rattle.uid_names.proofs.ListLemmas.{by_cases}
use Rattle.dom_history.specs.Replies.{may_write}
use Rattle.page_cache.specs.Caches.{page_at}
use Rattle.version_stamps.specs.Stamps.{stamp_of, raised}
use Rattle.address_map.proofs.Keeps.{IsLayout-without_mapping}
use Rattle.address_map.proofs.Changes.{IsLayout-mappings_after}
use Rattle.fault_handler.specs.declared.open_call.OpenCall.TheVariants.{Access}
use Rattle.fault_handler.specs.declared.tasks.Work.{Work}
use Rattle.fault_handler.specs.declared.tasks.Work.TheVariants.{Store}
use Rattle.fault_handler.specs.declared.tasks.Task.{Task}
use Rattle.fault_handler.specs.Entries.{keeps_writing}
use Rattle.fault_handler.specs.Lengths.{known_of, room_of, is_changed}
use Rattle.fault_handler.specs.Tasks.{page_of, start_of, size_of}
use Rattle.fault_handler.specs.Desks.{DeskState, IsNode, entry_at, state_of, maps_of, open_call_of, others_write}
use Rattle.fault_handler.specs.Changes.{with_note}
use Rattle.fault_handler.specs.LockCalls.{LockCall, open_call}
use Rattle.fault_handler.specs.Invariant.{IsProc, is_dirty, MayWork, IsAllowed, IsCallAtNode, IsDesk}
use Rattle.fault_handler.specs.Conditions.{IsIdle, IsNotAccessing}
use Rattle.fault_handler.proofs.Fours.{any-at}
use Rattle.fault_handler.proofs.PageKeeps.{IsDesk-with_used, IsDesk-with_stored, IsDesk-with_sent_again, IsDesk-with_dropped, IsDesk-with_no_page}
use Rattle.fault_handler.proofs.KnownKeeps.{raised-least, IsDesk-with_end, IsDesk-with_length_done, IsDesk-with_known_row, IsDesk-with_seen, IsDesk-with_forgotten}
use Rattle.fault_handler.proofs.TransitKeeps.{keeps_writing-keeps, IsDesk-with_fetch, IsDesk-with_sent_page, IsDesk-with_eviction, IsDesk-with_arrival, IsDesk-with_loss, IsDesk-with_room_settled, IsDesk-with_page_done}
use Rattle.fault_handler.proofs.Beginning.{segments-least}
use Rattle.fault_handler.proofs.LockKeeps.{IsDesk-with_state, IsDesk-with_note, IsDesk-with_call, IsDesk-with_maps}
use Rattle.fault_handler.proofs.Nothing.{none-there, unkept-still}
use Rattle.fault_handler.proofs.Choice.{idle-still}
use Rattle.fault_handler.specs.Outcomes.{Turn}
use Rattle.lock_validate.proofs.Good.{open-other}
use Rattle.lock_validate.proofs.Releasing.{dirty-another, changed-another}
use Rattle.lock_validate.specs.Causes.{Cause}
use Rattle.lock_validate.specs.Settled.{IsSettled}
use Rattle.lock_validate.specs.Calls.{lock_object}
use Rattle.lock_validate.specs.DeskMoves.{Change, DeskMoves}

-- a process of which no call is open, or one that is not a load's or store's
closed-other : (d : DeskState) (p : ℕ) → open_call_of d p ≡ None → IsNotAccessing d p
closed-other d p none same = let e : None ≡ Some Access = sym none ∙ same in cc

opened-other : (d : DeskState) (p : ℕ) (call : LockCall) → open_call_of d p ≡ Some (open_call call) → IsNotAccessing d p
opened-other d p call opened same = open-other call (sym opened ∙ same)

call-node : (nodes : ℕ) (call : LockCall) → IsNode nodes (lock_object call).home → IsCallAtNode nodes (open_call call)
call-node nodes (LockCall.Lock u m) node = node
call-node nodes (LockCall.PageOut u k delete) node = node
call-node nodes (LockCall.AttrOut u n delete) node = node
call-node nodes (LockCall.Unlock u) node = node
call-node nodes (LockCall.Remove u) node = node

-- a store lies in its page, within the greatest length, and of an object that the process writes
store-within : (task : Task) (bytes : List ℕ) → task.work ≡ Store bytes → start_of task + size_of task.work ≤ PAGE_BYTES → start_of task + length bytes ≤ PAGE_BYTES
store-within task bytes is within = subst (λ (w : Work). start_of task + size_of w ≤ PAGE_BYTES) is within

end-within : (task : Task) (n : ℕ) → page_of task < MAX_ROOM → start_of task + n ≤ PAGE_BYTES → task.offset + n ≤ MAX_LENGTH
end-within task n page within = omega (arith, page, within)

store-writes : (d : DeskState) (p : ℕ) (task : Task) (bytes : List ℕ) → task.work ≡ Store bytes → IsAllowed d.entries p task → keeps_writing (entry_at d.entries p task.uid) ≡ true
store-writes d p task bytes is allowed = subst (λ (w : Work). MayWork w (entry_at d.entries p task.uid)) is allowed.mode

module _ (c : Cause) (turn : Turn) (p : ℕ) (proc : IsProc p) where
  -- a release or a removal is noted
  noted-desk : (d : DeskState) (u : ObjectName) → IsDesk d → IsIdle d p → (may_write (state_of d p u) ≡ true → IsSettled d p u) → IsDesk (with_note d p u)
  noted-desk d u is idle settled =
      IsDesk-with_note d p u is proc (closed-other d p idle.no_call)
      (λ k dirty. by_writes (is_dirty (page_at d.cache.pages u k)) (λ all. all.clean k) dirty (λ reads. dirty-another d p u is proc idle reads k dirty))
      idle.no_page
      (λ changed. by_writes (is_changed (known_of u d.known)) (λ all. all.length) changed (λ reads. changed-another d p u is proc idle reads changed))
    where
      by_writes : (b : Bool) → (IsSettled d p u → b ≡ false) → b ≡ true → (may_write (state_of d p u) ≡ false → others_write d.entries p u ≡ true) → others_write d.entries p u ≡ true
      by_writes b none some another =
          by_cases
          (may_write (state_of d p u))
          (others_write d.entries p u ≡ true)
          (λ writes. absurd (let e : true ≡ false = sym some ∙ none (settled writes) in cc))
          another

  pub change-desk : (d e : DeskState) (dropped : List (ObjectName × ℕ)) → IsDesk d → Change c turn p d e dropped → IsDesk e
  change-desk d e dropped desk (Change.uses task count r does is there ends) = IsDesk-with_used d task.uid (page_of task) desk
  change-desk d e dropped desk (Change.stores task bytes r does is there ends) =
      IsDesk-with_stored d task.uid (page_of task) (start_of task) bytes p desk proc (store-within task bytes is does.allowed.range.within) (store-writes d p task bytes is does.allowed)
  change-desk d e dropped desk (Change.grows task bytes does is ends) =
      IsDesk-with_end d task.uid (task.offset + length bytes) desk (end-within task (length bytes) does.allowed.range.page (store-within task bytes is does.allowed.range.within))
      (any-at (λ q. keeps_writing (entry_at d.entries q task.uid)) p proc (store-writes d p task bytes is does.allowed))
  change-desk d e dropped desk (Change.fetches task does missing frame asks) = IsDesk-with_fetch d p desk proc task does.idle missing.absent missing.unasked does.allowed
  change-desk d e dropped desk (Change.drops task u k does missing full may asks) = IsDesk-with_dropped d u k desk (idle-still d u k may)
  change-desk d e dropped desk (Change.evicts task r does missing full clean there dirty still asks) =
      IsDesk-with_eviction d p desk proc task r.uid r.page does.idle (rw there dirty) still does.allowed
  change-desk d e dropped desk (Change.arrives task stamp bytes reply given fetches seen whole ends) = IsDesk-with_arrival d p desk proc task.uid (page_of task) bytes fetches.moves whole
  change-desk d e dropped desk (Change.loses task t given fetches) = IsDesk-with_loss d p desk proc task.uid (page_of task) fetches.moves
  change-desk d e dropped desk (Change.settles_room task r taken given room) = IsDesk-with_room_settled d p desk proc r.uid r.page taken room.sends.moves
  change-desk d e dropped desk (Change.sends_again task r stamp given room asks) = IsDesk-with_sent_again d r.uid r.page desk
  change-desk d e dropped desk (Change.sends delete u k r releasing still found there dirty asks) =
      IsDesk-with_sent_page d p desk proc u k (keeps_writing-keeps (entry_at d.entries p u) releasing.writes) (closed-other d p releasing.idle.no_call) (inl releasing.idle.no_page) (rw there refl)
      (λ none. none-there d p u releasing.idle.no_page still k)
  change-desk d e dropped desk (Change.page_settles u k r taken given closed sends writes keeping) = IsDesk-with_page_done d p desk proc taken (closed-other d p closed)
  change-desk d e dropped desk (Change.length_settles u n delete taken stamp given idle writes) = IsDesk-with_length_done d u n taken desk
  change-desk d e dropped desk (Change.notes delete u given idle held may settled asks) = noted-desk d u desk idle settled
  change-desk d e dropped desk (Change.sets call u s grant may) = IsDesk-with_state d p u s grant desk proc may.unkept may.seen may.least (λ other. may.node)
  change-desk d e dropped desk (Change.learns u m grant stamp room n given alone none fresh is_room is_length) =
      IsDesk-with_known_row d (record { uid = u; room = room; length = n; changed = false }) desk (record { room = is_room; length = is_length }) refl
  change-desk d e dropped desk (Change.raises u stamp given least known current) = IsDesk-with_seen d u (raised stamp (stamp_of u d.seen)) desk (raised-least stamp (stamp_of u d.seen) least) known
  change-desk d e dropped desk (Change.drops_all u a given object may none) = IsDesk-with_no_page d u desk (unkept-still d u desk none)
  change-desk d e dropped desk (Change.forgets u given none absent) = IsDesk-with_forgotten d u desk none
  change-desk d e dropped desk (Change.opens call ask given closed stands node asks) = IsDesk-with_call d p (Some (open_call call)) desk proc (closed-other d p closed) (open-other call) (call-node d.nodes call node)
  change-desk d e dropped desk (Change.closes call given opened stands) = IsDesk-with_call d p None desk proc (opened-other d p call opened) (λ same. cc) tt
  change-desk d e dropped desk (Change.maps u given idle held) = IsDesk-with_maps d p _ desk proc (IsLayout-mappings_after u (segments (room_of (known_of u d.known))) (maps_of d p) (desk.maps p proc) (segments-least d p desk proc idle u held))
  change-desk d e dropped desk (Change.unmaps u given idle there) = IsDesk-with_maps d p _ desk proc (IsLayout-without_mapping u (maps_of d p) (desk.maps p proc))

  pub moves-desk : (d e : DeskState) (dropped : List (ObjectName × ℕ)) → IsDesk d → DeskMoves c turn p d e dropped → IsDesk e
  moves-desk d e dropped desk DeskMoves.none = desk
  moves-desk d e dropped desk (DeskMoves.next {e = f} moves change) = change-desk f e [] (moves-desk d f dropped desk moves) change
  moves-desk d e dropped desk (DeskMoves.dropping {e = f} moves change) = change-desk f e dropped (moves-desk d f [] desk moves) change
