-- Which store an event does, by what made its desk move.
use Rattle.std.proofs.Common.{◌≡◌, ℕ, ◌+◌, nat_lt, false, List, [], length, Some, None, refl, sym, subst, ◌∙◌}
use Rattle.uid_names.specs.Names.{ObjectName}
use Rattle.dom_history.specs.declared.op.Reply.{Reply}
use Rattle.dom_history.specs.declared.op.Reply.TheVariants as replies
use Rattle.page_cache.specs.Caches.{Resident, page_at}
use Rattle.fault_handler.specs.declared.tasks.Work.TheVariants.{Load, Store}
use Rattle.fault_handler.specs.declared.tasks.Task.{Task}
use Rattle.fault_handler.specs.Lengths.{known_of, length_of}
use Rattle.fault_handler.specs.ShownPages.{written}
use Rattle.fault_handler.specs.Tasks.{page_of, start_of}
use Rattle.fault_handler.specs.Desks.{DeskState, at}
use Rattle.fault_handler.specs.Outcomes.{Turn}
use Rattle.fault_handler.specs.Accesses.{DeskOp, target_of}
use Rattle.fault_handler.specs.PageReplies.{PageAnswer}
use Rattle.lock_validate.specs.Causes.{Cause}
use Rattle.lock_validate.specs.Releasing.{releasing_in}
use Rattle.lock_validate.specs.Told.{state_set}
use Rattle.lock_validate.specs.Loading.{IsTaskIn}
use Rattle.lock_validate.specs.Refusals.{Refuses}
use Rattle.lock_validate.specs.Turns.{Says}
use Rattle.lock_validate.specs.DeskMoves.{Change, DeskMoves}
use Rattle.lock_validate.proofs.Facts.{target_of-same}

-- a load or store begins, or goes on
abbrev pub IsAccess : Cause → Type 0
IsAccess (Cause.Accesses (DeskOp.Loads spot count)) = Unit {0}
IsAccess (Cause.Accesses (DeskOp.Stores spot bytes)) = Unit {0}
IsAccess (Cause.PageCame a) = Unit {0}
IsAccess c = ⊥

no-release : (c : Cause) → IsAccess c → releasing_in c ≡ None
no-release (Cause.Accesses op) is = refl
no-release (Cause.PageCame a) is = refl
no-release (Cause.Locks u m) is = absurd is
no-release (Cause.Releases delete u) is = absurd is
no-release (Cause.AnswerCame a) is = absurd is
no-release (Cause.AccessFailed t) is = absurd is
no-release (Cause.CallFailed call) is = absurd is

no-state : (d : DeskState) (p : ℕ) (c : Cause) → IsAccess c → state_set d p c ≡ None
no-state d p (Cause.Accesses op) is = refl
no-state d p (Cause.PageCame a) is = refl
no-state d p (Cause.Locks u m) is = absurd is
no-state d p (Cause.Releases delete u) is = absurd is
no-state d p (Cause.AnswerCame a) is = absurd is
no-state d p (Cause.AccessFailed t) is = absurd is
no-state d p (Cause.CallFailed call) is = absurd is

-- its mappings and lock entries stay
pub record IsSameTables (d e : DeskState) : Type 0 where
  pub maps : e.maps ≡ d.maps
  pub entries : e.entries ≡ d.entries

module _ (c : Cause) (turn : Turn) (p : ℕ) (access : IsAccess c) where
  change-tables : (d e : DeskState) (dropped : List (ObjectName × ℕ)) → Change c turn p d e dropped → IsSameTables d e
  change-tables d e dropped (Change.maps u given idle held) = absurd (subst IsAccess given access)
  change-tables d e dropped (Change.unmaps u given idle there) = absurd (subst IsAccess given access)
  change-tables d e dropped (Change.notes delete u given idle held may settled asks) = absurd (let f = sym (no-release c access) ∙ given in cc)
  change-tables d e dropped (Change.sets call u s grant may) = absurd (let f = sym (no-state d p c access) ∙ may.given in cc)
  change-tables d e dropped change = record { maps = refl; entries = refl }

  pub moves-tables : (d e : DeskState) (dropped : List (ObjectName × ℕ)) → DeskMoves c turn p d e dropped → IsSameTables d e
  moves-tables d e dropped DeskMoves.none = record { maps = refl; entries = refl }
  moves-tables d e dropped (DeskMoves.next {e = f} before change) = let a = moves-tables d f dropped before in let b = change-tables f e [] change in record { maps = b.maps ∙ a.maps; entries = b.entries ∙ a.entries }
  moves-tables d e dropped (DeskMoves.dropping {e = f} before change) = let a = moves-tables d f [] before in let b = change-tables f e dropped change in record { maps = b.maps ∙ a.maps; entries = b.entries ∙ a.entries }

pub task-access : (d : DeskState) (p : ℕ) (c : Cause) (task : Task) → IsTaskIn d p c task → IsAccess c
task-access d p (Cause.Accesses (DeskOp.Loads spot count)) task is = tt
task-access d p (Cause.Accesses (DeskOp.Stores spot bytes)) task is = tt
task-access d p (Cause.Accesses (DeskOp.Measures u)) task is = absurd is
task-access d p (Cause.Accesses (DeskOp.Maps u)) task is = absurd is
task-access d p (Cause.Accesses (DeskOp.Unmaps u)) task is = absurd is
task-access d p (Cause.PageCame a) task is = tt
task-access d p (Cause.Locks u m) task is = absurd is
task-access d p (Cause.Releases delete u) task is = absurd is
task-access d p (Cause.AnswerCame a) task is = absurd is
task-access d p (Cause.AccessFailed t) task is = absurd is
task-access d p (Cause.CallFailed call) task is = absurd is

-- what a store is, on whichever desk: that of the operation, or the open one
abbrev pub IsWorkOf : DeskState → ℕ → Cause → Task → Type 0
IsWorkOf d p (Cause.Accesses (DeskOp.Loads spot count)) task = (target_of d p spot ≡ Some (task.uid, task.offset)) × (task.work ≡ Load count)
IsWorkOf d p (Cause.Accesses (DeskOp.Stores spot bytes)) task = (target_of d p spot ≡ Some (task.uid, task.offset)) × (task.work ≡ Store bytes)
IsWorkOf d p c task = IsTaskIn d p c task

pub task-of : (d f : DeskState) (p : ℕ) (c : Cause) (task : Task) → f.maps ≡ d.maps → IsTaskIn f p c task → IsWorkOf d p c task
task-of d f p (Cause.Accesses (DeskOp.Loads spot count)) task same is = (sym (target_of-same d f p spot same) ∙ is.0, is.1)
task-of d f p (Cause.Accesses (DeskOp.Stores spot bytes)) task same is = (sym (target_of-same d f p spot same) ∙ is.0, is.1)
task-of d f p (Cause.Accesses (DeskOp.Measures u)) task same is = absurd is
task-of d f p (Cause.Accesses (DeskOp.Maps u)) task same is = absurd is
task-of d f p (Cause.Accesses (DeskOp.Unmaps u)) task same is = absurd is
task-of d f p (Cause.PageCame (PageAnswer.Came t stamp bytes)) task same is = is
task-of d f p (Cause.PageCame (PageAnswer.Taken t r stamp)) task same is = is
task-of d f p (Cause.PageCame (PageAnswer.NotTaken t r stamp)) task same is = is
task-of d f p (Cause.Locks u m) task same is = absurd is
task-of d f p (Cause.Releases delete u) task same is = absurd is
task-of d f p (Cause.AnswerCame a) task same is = absurd is
task-of d f p (Cause.AccessFailed t) task same is = absurd is
task-of d f p (Cause.CallFailed call) task same is = absurd is

-- a refusal is not Fine
refused-not : (d : DeskState) (p : ℕ) (c : Cause) (reply : Reply) → Refuses d p c reply → reply ≡ replies.Fine → ⊥
refused-not d p c reply (Refuses.load_unmapped spot count none) same = absurd (cc)
refused-not d p c reply (Refuses.load_unheld spot count u offset at none) same = absurd (cc)
refused-not d p c reply (Refuses.load_past_end spot count u offset at held past) same = absurd (cc)
refused-not d p c reply (Refuses.store_unmapped spot bytes none) same = absurd (cc)
refused-not d p c reply (Refuses.store_unheld spot bytes u offset at none) same = absurd (cc)
refused-not d p c reply (Refuses.store_mode spot bytes u offset at held none) same = absurd (cc)
refused-not d p c reply (Refuses.store_past_room spot bytes u offset at held writes past) same = absurd (cc)
refused-not d p c reply (Refuses.length_unheld u none) same = absurd (cc)
refused-not d p c reply (Refuses.map_unheld u none) same = absurd (cc)
refused-not d p c reply (Refuses.unmap_none u none) same = absurd (cc)
refused-not d p c reply (Refuses.lock_held u m held) same = absurd (cc)
refused-not d p c reply (Refuses.lock_unsettled u m none is) same = absurd (cc)
refused-not d p c reply (Refuses.lock_full u m free full) same = absurd (cc)
refused-not d p c reply (Refuses.lock_elsewhere u m free room away) same = absurd (cc)
refused-not d p c reply (Refuses.unlock_free u free) same = absurd (cc)
refused-not d p c reply (Refuses.delete_unheld u none) same = absurd (cc)
refused-not d p c reply (Refuses.delete_mode u held none) same = absurd (cc)

-- what a store that was done leaves at its page, and of the length
pub record IsDone (d : DeskState) (p : ℕ) (e : DeskState) (c : Cause) : Type 0 where
  pub task : Task
  pub bytes : List ℕ
  pub before : Resident
  pub is : IsTaskIn d p c task
  pub work : task.work ≡ Store bytes
  pub page : page_at e.cache.pages task.uid (page_of task) ≡ Some (written (start_of task) bytes before)
  pub end : nat_lt (length_of (known_of task.uid e.known)) (task.offset + length bytes) ≡ false

-- the store of an operation that ended Fine
abbrev pub MayStoreBy : Cause → Type 0
MayStoreBy (Cause.Accesses (DeskOp.Stores spot bytes)) = Unit {0}
MayStoreBy (Cause.PageCame a) = Unit {0}
MayStoreBy c = ⊥

pub says-done : (d : DeskState) (p : ℕ) (e : DeskState) (c : Cause) (turn : Turn) → MayStoreBy c → turn ≡ Turn.Ends replies.Fine → Says d p e c turn → IsDone d p e c
says-done d p e c turn may ends (Says.stores cause task bytes r is work page end) = record { task = task; bytes = bytes; before = r; is = is; work = work; page = page; end = end }
says-done d p e c turn may ends (Says.refuses cause reply refuses same) = absurd (refused-not d p cause reply refuses (same-reply reply replies.Fine ends))
  where
    same-reply : (a b : Reply) → Turn.Ends a ≡ Turn.Ends b → a ≡ b
    same-reply a b same = cc
says-done d p e c turn may ends (Says.maps u held) = absurd may
says-done d p e c turn may ends (Says.answers a reply gives leaves) = absurd may
says-done d p e c turn may ends (Says.unmaps u there) = absurd may
says-done d p e c turn may ends (Says.call_fails call leaves) = absurd may
says-done d p e c turn may ends said = absurd (cc)
