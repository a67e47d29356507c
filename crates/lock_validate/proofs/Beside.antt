-- A call leaves what the desk keeps for another process, and what the desk is.
use Rattle.std.proofs.Common.{◌≡◌, ◌≢◌, ℕ, ◌<◌, Bool, true, false, List, [], length, Option, Some, None, refl, sym, subst, ◌∙◌}
use Rattle.uid_names.specs.Names.{ObjectName}
use Rattle.uid_names.specs.declared.limits.TheConstants.{PROCESS_LOCKS}
use Rattle.dom_history.specs.Locks.{is_held, is_free}
use Rattle.dom_history.specs.Replies.{may_delete}
use Rattle.fault_handler.specs.declared.entries.LockEntry.{LockEntry}
use Rattle.fault_handler.specs.declared.open_call.OpenCall.{OpenCall}
use Rattle.fault_handler.specs.declared.open_call.OpenCall.TheVariants.{Access}
use Rattle.fault_handler.specs.Entries.{entry_of, state_in, is_released, keeps, keeps_writing, entries_after, entries_noted}
use Rattle.fault_handler.specs.Tasks.{page_of}
use Rattle.fault_handler.specs.Transits.{coming, going}
use Rattle.fault_handler.specs.Desks.{DeskState, IsNode, entries_of, open_call_of, at, put_at}
use Rattle.fault_handler.specs.LockCalls.{LockCall, open_call, lock_call}
use Rattle.fault_handler.specs.Invariant.{IsProc}
use Rattle.fault_handler.specs.Conditions.{IsIdle}
use Rattle.fault_handler.specs.Ready.{WriterStands, ReleaseStands, CallStands, MayStand, IsReadyAt, IsReady}
use Rattle.fault_handler.proofs.Fours.{at-put_other}
use Rattle.fault_handler.specs.Outcomes.{Turn}
use Rattle.lock_validate.specs.Causes.{Cause}
use Rattle.lock_validate.specs.Untouched.{IsUntouched, IsSameDesk}
use Rattle.lock_validate.specs.DeskMoves.{Change, DeskMoves}

-- after two changes
untouched-then : (d e f : DeskState) (q : ℕ) → IsUntouched d e q → IsUntouched e f q → IsUntouched d f q
untouched-then d e f q a b = record {
  nodes = b.nodes ∙ a.nodes;
  entries = b.entries ∙ a.entries;
  maps = b.maps ∙ a.maps;
  call = b.call ∙ a.call;
  task = b.task ∙ a.task;
  moving = b.moving ∙ a.moving;
}

module _ (c : Cause) (turn : Turn) (p q : ℕ) (proc : IsProc p) (other : IsProc q) (differs : q ≢ p) where
  -- what was put at the process leaves the other's
  beside : {A : Type 0} (kept : List A) (new none : A) → at (put_at kept p new) q none ≡ at kept q none
  beside kept new none = at-put_other kept p q new none proc other differs

  change-beside : (d e : DeskState) (dropped : List (ObjectName × ℕ)) → Change c turn p d e dropped → IsUntouched d e q
  change-beside d e dropped (Change.fetches task does missing frame asks) = record { nodes = refl; entries = refl; maps = refl; call = beside d.calls (Some Access) None; task = beside d.tasks (Some task) None; moving = beside d.moving (coming task.uid (page_of task)) None }
  change-beside d e dropped (Change.evicts task r does missing full clean there dirty still asks) = record { nodes = refl; entries = refl; maps = refl; call = beside d.calls (Some Access) None; task = beside d.tasks (Some task) None; moving = beside d.moving (going r.uid r.page) None }
  change-beside d e dropped (Change.arrives task stamp bytes reply given fetches seen whole ends) = record { nodes = refl; entries = refl; maps = refl; call = beside d.calls None None; task = beside d.tasks None None; moving = beside d.moving None None }
  change-beside d e dropped (Change.loses task t given fetches) = record { nodes = refl; entries = refl; maps = refl; call = beside d.calls None None; task = beside d.tasks None None; moving = beside d.moving None None }
  change-beside d e dropped (Change.settles_room task r taken given room) = record { nodes = refl; entries = refl; maps = refl; call = beside d.calls None None; task = beside d.tasks None None; moving = beside d.moving None None }
  change-beside d e dropped (Change.sends delete u k r releasing still found there dirty asks) = record { nodes = refl; entries = refl; maps = refl; call = refl; task = refl; moving = beside d.moving (going u k) None }
  change-beside d e dropped (Change.page_settles u k r taken given closed sends writes keeping) = record { nodes = refl; entries = refl; maps = refl; call = refl; task = refl; moving = beside d.moving None None }
  change-beside d e dropped (Change.notes delete u given idle held may settled asks) = record { nodes = refl; entries = beside d.entries (entries_noted u (entries_of d p)) []; maps = refl; call = refl; task = refl; moving = refl }
  change-beside d e dropped (Change.sets call u s grant may) = record { nodes = refl; entries = beside d.entries (entries_after u s grant (entries_of d p)) []; maps = refl; call = refl; task = refl; moving = refl }
  change-beside d e dropped (Change.opens call ask given closed stands node asks) = record { nodes = refl; entries = refl; maps = refl; call = beside d.calls (Some (open_call call)) None; task = refl; moving = refl }
  change-beside d e dropped (Change.closes call given opened stands) = record { nodes = refl; entries = refl; maps = refl; call = beside d.calls None None; task = refl; moving = refl }
  change-beside d e dropped (Change.maps u given idle held) = record { nodes = refl; entries = refl; maps = beside d.maps _ []; call = refl; task = refl; moving = refl }
  change-beside d e dropped (Change.unmaps u given idle there) = record { nodes = refl; entries = refl; maps = beside d.maps _ []; call = refl; task = refl; moving = refl }
  change-beside d e dropped change = record { nodes = refl; entries = refl; maps = refl; call = refl; task = refl; moving = refl }

  pub moves-beside : (d e : DeskState) (dropped : List (ObjectName × ℕ)) → DeskMoves c turn p d e dropped → IsUntouched d e q
  moves-beside d e dropped DeskMoves.none = record { nodes = refl; entries = refl; maps = refl; call = refl; task = refl; moving = refl }
  moves-beside d e dropped (DeskMoves.next {e = f} moves change) = untouched-then d f e q (moves-beside d f dropped moves) (change-beside f e [] change)
  moves-beside d e dropped (DeskMoves.dropping {e = f} moves change) = untouched-then d f e q (moves-beside d f [] moves) (change-beside f e dropped change)

module _ (c : Cause) (turn : Turn) (p : ℕ) where
  change-same : (d e : DeskState) (dropped : List (ObjectName × ℕ)) → Change c turn p d e dropped → IsSameDesk d e
  change-same d e dropped (Change.fetches task does missing frame asks) = record { node = refl; nodes = refl; frames = refl }
  change-same d e dropped change = record { node = refl; nodes = refl; frames = refl }

  pub moves-same : (d e : DeskState) (dropped : List (ObjectName × ℕ)) → DeskMoves c turn p d e dropped → IsSameDesk d e
  moves-same d e dropped DeskMoves.none = record { node = refl; nodes = refl; frames = refl }
  moves-same d e dropped (DeskMoves.next {e = f} moves change) =
      let a = moves-same d f dropped moves in let b = change-same f e [] change in record { node = b.node ∙ a.node; nodes = b.nodes ∙ a.nodes; frames = b.frames ∙ a.frames }
  moves-same d e dropped (DeskMoves.dropping {e = f} moves change) =
      let a = moves-same d f [] moves in let b = change-same f e dropped change in record { node = b.node ∙ a.node; nodes = b.nodes ∙ a.nodes; frames = b.frames ∙ a.frames }

-- what is untouched stands as before
module _ (d e : DeskState) (q : ℕ) (same : IsUntouched d e q) where
  -- a fact on a process's entries
  over : (P : List LockEntry → Type 0) → P (entries_of d q) → P (entries_of e q)
  over P = subst P (sym same.entries)

  pub IsIdle-untouched : IsIdle d q → IsIdle e q
  IsIdle-untouched idle = record {
    no_call = same.call ∙ idle.no_call;
    no_page = same.moving ∙ idle.no_page;
    keeping = over (λ es. (u : ObjectName) → is_held (state_in (entry_of u es)) ≡ true → keeps (entry_of u es) ≡ true) idle.keeping;
  }

  WriterStands-untouched : (u : ObjectName) (delete : Bool) → WriterStands d q u delete → WriterStands e q u delete
  WriterStands-untouched u delete s = record {
    writes = over (λ es. keeps_writing (entry_of u es) ≡ true) s.writes;
    may = over (λ es. delete ≡ true → may_delete (state_in (entry_of u es)) ≡ true) s.may;
    others = over (λ es. (v : ObjectName) → is_held (state_in (entry_of v es)) ≡ true → keeps (entry_of v es) ≡ true) s.others;
  }

  ReleaseStands-untouched : (u : ObjectName) → ReleaseStands d q u → ReleaseStands e q u
  ReleaseStands-untouched u s = record {
    there = over (λ es. is_free (state_in (entry_of u es)) ≡ false) s.there;
    noted = over (λ es. is_held (state_in (entry_of u es)) ≡ true → is_released (entry_of u es) ≡ true) s.noted;
    still = same.moving ∙ s.still;
    others = over (λ es. (v : ObjectName) → v ≢ u → is_held (state_in (entry_of v es)) ≡ true → keeps (entry_of v es) ≡ true) s.others;
  }

  CallStands-untouched : (call : LockCall) → CallStands d q call → CallStands e q call
  CallStands-untouched (LockCall.Lock u m) s = record {
    free = over (λ es. is_free (state_in (entry_of u es)) ≡ true) s.free;
    room = over (λ es. length es < PROCESS_LOCKS) s.room;
    node = subst (λ (n : ℕ). IsNode n u.home) (sym same.nodes) s.node;
    still = same.moving ∙ s.still;
    others = over (λ es. (v : ObjectName) → is_held (state_in (entry_of v es)) ≡ true → keeps (entry_of v es) ≡ true) s.others;
  }
  CallStands-untouched (LockCall.PageOut u k delete) s = (WriterStands-untouched u delete s.0, same.moving ∙ s.1)
  CallStands-untouched (LockCall.AttrOut u n delete) s = (WriterStands-untouched u delete s.0, same.moving ∙ s.1)
  CallStands-untouched (LockCall.Unlock u) s = ReleaseStands-untouched u s
  CallStands-untouched (LockCall.Remove u) s = (ReleaseStands-untouched u s.0, over (λ es. is_held (state_in (entry_of u es)) ≡ true) s.1)

  MayStand-untouched : (call : Option LockCall) → MayStand d q call → MayStand e q call
  MayStand-untouched None s = tt
  MayStand-untouched (Some call) s = CallStands-untouched call s

  ready-at : (call : Option OpenCall) → IsReadyAt d q call → IsReadyAt e q call
  ready-at None ready = IsIdle-untouched ready
  ready-at (Some call) ready = MayStand-untouched (lock_call call) ready

  pub IsReady-untouched : IsReady d q → IsReady e q
  IsReady-untouched ready = subst (IsReadyAt e q) (sym same.call) (ready-at (open_call_of d q) ready)
