-- What the end of an operation makes of a state at its desk is what its reply says; an operation that goes on leaves it.
use Rattle.std.proofs.Common.{◌≡◌, ℕ, Bool, true, false, List, [], Option, Some, None, refl, sym, ap, subst, ◌∙◌}
use Rattle.std.specs.Prelude.{if◌then◌else◌}
use Rattle.std.specs.Option.{option_map}
use Rattle.std.proofs.lemmas.Option.{same_Some}
use Rattle.uid_names.proofs.ListLemmas.{by_cases}
use Rattle.uid_names.proofs.Orders.{same_uid_is}
use Rattle.uid_names.specs.Names.{ObjectName, same_uid}
use Rattle.dom_history.specs.declared.op.Op.{Op}
use Rattle.dom_history.specs.declared.op.Op.TheVariants as ops
use Rattle.dom_history.specs.declared.op.Reply.{Reply}
use Rattle.dom_history.specs.declared.op.Reply.TheVariants as replies
use Rattle.dom_history.specs.declared.deed.LockState.{LockState}
use Rattle.dom_history.specs.declared.deed.LockState.TheVariants.{Free, Held, Taking, Releasing, Deleting}
use Rattle.dom_history.specs.Locks.{state_after, mode_at_home}
use Rattle.ring_messages.specs.Bodies.{Answer}
use Rattle.fault_handler.specs.declared.entries.LockEntry.{LockEntry}
use Rattle.fault_handler.specs.declared.tasks.Task.{Task}
use Rattle.fault_handler.specs.Entries.{entry_of, state_in, entries_after, entries_noted, noted_if}
use Rattle.fault_handler.specs.Desks.{DeskState, entries_of, entry_at, state_of, task_of}
use Rattle.fault_handler.specs.Outcomes.{Turn, Moved}
use Rattle.fault_handler.specs.Accesses.{DeskOp}
use Rattle.fault_handler.specs.LockCalls.{LockCall, LockAnswer, open_call, lock_answer}
use Rattle.fault_handler.specs.Invariant.{IsProc, IsDesk}
use Rattle.fault_handler.specs.Next.{IsTaskOf, IsCallOf}
use Rattle.fault_handler.proofs.Fours.{at-put_same}
use Rattle.fault_handler.proofs.LockKeeps.{entry_of-after_other, entry_of-noted_same, entry_of-noted_other}
use Rattle.lock_validate.specs.Causes.{Cause, MayCome, IsOf, op_of}
use Rattle.lock_validate.specs.Left.{answer_reply, fault_reply, Leaves, FaultLeaves}
use Rattle.lock_validate.specs.Loading.{IsTaskIn}
use Rattle.lock_validate.specs.DeskMoves.{Change, DeskMoves}
use Rattle.lock_validate.specs.Refusals.{Refuses}
use Rattle.lock_validate.specs.Releasing.{releasing_in}
use Rattle.lock_validate.specs.Told.{state_set}
use Rattle.lock_validate.specs.Turns.{Says, IsMade}
use Rattle.lock_validate.proofs.DeskStays.{moves-desk}

-- the object of which an answer or a link fault sets a state
abbrev pub set_object : Cause → Option ObjectName
set_object (Cause.AnswerCame (LockAnswer.Granted u m grant stamp room n)) = Some u
set_object (Cause.AnswerCame (LockAnswer.Released u)) = Some u
set_object (Cause.AnswerCame (LockAnswer.Removed u)) = Some u
set_object (Cause.CallFailed (LockCall.Lock u m)) = Some u
set_object (Cause.CallFailed (LockCall.Unlock u)) = Some u
set_object (Cause.CallFailed (LockCall.Remove u)) = Some u
set_object c = None

module _ (d : DeskState) (p : ℕ) (call : LockCall) (u : ObjectName) (s : LockState) (grant : ℕ) where
  object-is : (x : LockCall × ObjectName × LockState × ℕ) → Some x ≡ Some (call, u, s, grant) → Some x.1 ≡ Some u
  object-is x is = ap (λ (z : LockCall × ObjectName × LockState × ℕ). Some z.1) (same_Some x (call, u, s, grant) is)

  set-object : (c : Cause) → state_set d p c ≡ Some (call, u, s, grant) → set_object c ≡ Some u
  set-object (Cause.AnswerCame (LockAnswer.Granted v m g stamp room n)) is = object-is _ is
  set-object (Cause.AnswerCame (LockAnswer.Released v)) is = object-is _ is
  set-object (Cause.AnswerCame (LockAnswer.Removed v)) is = object-is _ is
  set-object (Cause.CallFailed (LockCall.Lock v m)) is = object-is _ is
  set-object (Cause.CallFailed (LockCall.Unlock v)) is = object-is _ is
  set-object (Cause.CallFailed (LockCall.Remove v)) is = object-is _ is
  set-object c is = absurd (cc)

-- a note of a release leaves the state
pub noted-state : (o : Option LockEntry) → state_in (option_map (noted_if true) o) ≡ state_in o
noted-state None = refl
noted-state (Some e) = refl

module _ (c : Cause) (turn : Turn) (p : ℕ) (proc : IsProc p) (v : ObjectName) (away : (u : ObjectName) → set_object c ≡ Some u → same_uid v u ≡ false) where
  -- a change leaves the state of an object that it is not of
  change-state : (d e : DeskState) (dropped : List (ObjectName × ℕ)) → IsDesk d → Change c turn p d e dropped → state_of e p v ≡ state_of d p v
  change-state d e dropped desk (Change.sets call u s grant may) =
      ap (λ es. state_in (entry_of v es)) (at-put_same d.entries p (entries_after u s grant (entries_of d p)) [] desk.four.entries proc)
      ∙ ap state_in (entry_of-after_other u s grant v (entries_of d p) (away u (set-object d p call u s grant c may.given)))
  change-state d e dropped desk (Change.notes delete u given idle held may settled asks) =
      ap (λ es. state_in (entry_of v es)) (at-put_same d.entries p (entries_noted u (entries_of d p)) [] desk.four.entries proc)
      ∙ by_cases (same_uid v u) (state_in (entry_of v (entries_noted u (entries_of d p))) ≡ state_of d p v)
      (λ same. ap (λ w. state_in (entry_of v (entries_noted w (entries_of d p)))) (sym (same_uid_is v u same)) ∙ (ap state_in (entry_of-noted_same v (entries_of d p)) ∙ noted-state (entry_at d.entries p v)))
      (λ apart. ap state_in (entry_of-noted_other u v (entries_of d p) apart))
  change-state d e dropped desk change = refl

  pub moves-state : (d e : DeskState) (dropped : List (ObjectName × ℕ)) → IsDesk d → DeskMoves c turn p d e dropped → state_of e p v ≡ state_of d p v
  moves-state d e dropped desk DeskMoves.none = refl
  moves-state d e dropped desk (DeskMoves.next {e = f} before change) = change-state f e [] (moves-desk c turn p proc d f dropped desk before) change ∙ moves-state d f dropped desk before
  moves-state d e dropped desk (DeskMoves.dropping {e = f} before change) = change-state f e dropped (moves-desk c turn p proc d f [] desk before) change ∙ moves-state d f [] desk before

-- a reply that says nothing of locks
abbrev is_quiet : Reply → Bool
is_quiet replies.Fine = false
is_quiet replies.Doubt = false
is_quiet reply = true

module _ (v : ObjectName) (s : LockState) where
  quiet-after : (op : Op) (r : Reply) → is_quiet r ≡ true → state_after v op r s ≡ s
  quiet-after (ops.Lock u m) replies.Fine quiet = absurd (cc)
  quiet-after (ops.Lock u m) replies.Doubt quiet = absurd (cc)
  quiet-after (ops.Lock u m) r quiet = refl
  quiet-after (ops.Unlock u) replies.Fine quiet = absurd (cc)
  quiet-after (ops.Unlock u) replies.Doubt quiet = absurd (cc)
  quiet-after (ops.Unlock u) r quiet = refl
  quiet-after (ops.Delete u) replies.Fine quiet = absurd (cc)
  quiet-after (ops.Delete u) replies.Doubt quiet = absurd (cc)
  quiet-after (ops.Delete u) r quiet = refl
  quiet-after op r quiet = refl

  -- nor does an operation that is none on locks
  access-after : (access : DeskOp) (op : Op) → op ≡ op_of access → (r : Reply) → state_after v op r s ≡ s
  access-after (DeskOp.Loads spot count) op is r = ap (λ o. state_after v o r s) is
  access-after (DeskOp.Stores spot bytes) op is r = ap (λ o. state_after v o r s) is
  access-after (DeskOp.Measures u) op is r = ap (λ o. state_after v o r s) is
  access-after (DeskOp.Maps u) op is r = ap (λ o. state_after v o r s) is
  access-after (DeskOp.Unmaps u) op is r = ap (λ o. state_after v o r s) is

  task-after : (op : Op) (task : Option Task) → IsTaskOf op task → (r : Reply) → state_after v op r s ≡ s
  task-after (ops.Load spot count) task is r = refl
  task-after (ops.Store spot bytes) task is r = refl
  task-after (ops.New home kind room) task is r = absurd is
  task-after (ops.List home after) task is r = absurd is
  task-after (ops.Lock u m) task is r = absurd is
  task-after (ops.Unlock u) task is r = absurd is
  task-after (ops.Delete u) task is r = absurd is
  task-after (ops.Length u) task is r = absurd is
  task-after (ops.Map u) task is r = absurd is
  task-after (ops.Unmap u) task is r = absurd is

-- what an outcome says of locks
module _ (d e : DeskState) (p : ℕ) where
  abbrev Said : Cause → Turn → Type 0
  Said (Cause.Locks u m) (Turn.Ends reply) = is_quiet reply ≡ true
  Said (Cause.Releases delete u) (Turn.Ends reply) = is_quiet reply ≡ true
  Said (Cause.AnswerCame a) (Turn.Ends reply) = (answer_reply a ≡ Some reply) × Leaves d p e a
  Said (Cause.AnswerCame a) turn = set_object (Cause.AnswerCame a) ≡ None
  Said (Cause.CallFailed call) (Turn.Ends reply) = (reply ≡ fault_reply call) × FaultLeaves d p e call
  Said (Cause.CallFailed call) turn = ⊥
  Said c turn = Unit {0}

  task-said : (c : Cause) (turn : Turn) (task : Task) → IsTaskIn d p c task → Said c turn
  task-said (Cause.Accesses access) turn task is = tt
  task-said (Cause.PageCame a) turn task is = tt
  task-said (Cause.Locks u m) turn task is = absurd is
  task-said (Cause.Releases delete u) turn task is = absurd is
  task-said (Cause.AnswerCame a) turn task is = absurd is
  task-said (Cause.AccessFailed t) turn task is = absurd is
  task-said (Cause.CallFailed call) turn task is = absurd is

  answer-unset : (a : LockAnswer) (delete : Bool) (u : ObjectName) → releasing_in (Cause.AnswerCame a) ≡ Some (delete, u) → set_object (Cause.AnswerCame a) ≡ None
  answer-unset (LockAnswer.PageSettled v x taken stamp) delete u given = refl
  answer-unset (LockAnswer.LengthSettled v n x taken stamp) delete u given = refl
  answer-unset a delete u given = absurd (cc)

  asks-said : (c : Cause) (delete : Bool) (u : ObjectName) → releasing_in c ≡ Some (delete, u) → (home : ℕ) (ask : _) → Said c (Turn.Asks home ask)
  asks-said (Cause.AnswerCame a) delete u given home ask = answer-unset a delete u given
  asks-said (Cause.CallFailed call) delete u given home ask = absurd (cc)
  asks-said (Cause.Locks v m) delete u given home ask = tt
  asks-said (Cause.Releases x v) delete u given home ask = tt
  asks-said (Cause.Accesses access) delete u given home ask = tt
  asks-said (Cause.PageCame a) delete u given home ask = tt
  asks-said (Cause.AccessFailed t) delete u given home ask = tt

  waits-said : (c : Cause) (delete : Bool) (u : ObjectName) → releasing_in c ≡ Some (delete, u) → (v : ObjectName) (k : ℕ) → Said c (Turn.Waits v k)
  waits-said (Cause.AnswerCame a) delete u given v k = answer-unset a delete u given
  waits-said (Cause.CallFailed call) delete u given v k = absurd (cc)
  waits-said (Cause.Locks w m) delete u given v k = tt
  waits-said (Cause.Releases x w) delete u given v k = tt
  waits-said (Cause.Accesses access) delete u given v k = tt
  waits-said (Cause.PageCame a) delete u given v k = tt
  waits-said (Cause.AccessFailed t) delete u given v k = tt

  refused-said : (c : Cause) (reply : Reply) → Refuses d p c reply → Said c (Turn.Ends reply)
  refused-said c reply (Refuses.lock_held u m held) = refl
  refused-said c reply (Refuses.lock_unsettled u m held unsettled) = refl
  refused-said c reply (Refuses.lock_full u m free full) = refl
  refused-said c reply (Refuses.lock_elsewhere u m free room away) = refl
  refused-said c reply (Refuses.unlock_free u free) = refl
  refused-said c reply (Refuses.delete_unheld u held) = refl
  refused-said c reply (Refuses.delete_mode u held may) = refl
  refused-said c reply refused = tt

  said-so : (c : Cause) (turn : Turn) → Says d p e c turn → Said c turn
  said-so c turn (Says.refuses cause reply refused same) = refused-said c reply refused
  said-so c turn (Says.loads cause task count r given work there) = task-said c _ task given
  said-so c turn (Says.stores cause task bytes r given work there within) = task-said c _ task given
  said-so c turn (Says.measures u held) = tt
  said-so c turn (Says.maps u held) = tt
  said-so c turn (Says.unmaps u mapped) = tt
  said-so c turn (Says.answers a reply says leaves) = (says, leaves)
  said-so c turn (Says.access_fails t) = tt
  said-so c turn (Says.call_fails call leaves) = (refl, leaves)
  said-so c turn (Says.waits cause task given absent fetched) = task-said c _ task given
  said-so c turn (Says.waits_to_release cause delete u k releasing found) = waits-said c delete u releasing.given u k
  said-so c turn (Says.asks_page cause task given fetches) = task-said c _ task given
  said-so c turn (Says.sends_room cause task r given room) = task-said c _ task given
  said-so c turn (Says.sends_page cause delete u k r given opened sends) = asks-said c delete u given _ _
  said-so c turn (Says.sends_length cause delete u n given opened changed) = asks-said c delete u given _ _
  said-so c turn (Says.asks_lock u m opened) = tt
  said-so c turn (Says.gives_up cause delete u given opened may settled) = asks-said c delete u given _ _

-- the operation whose call was answered so
abbrev IsAnsweredOp : Op → LockAnswer → Type 0
IsAnsweredOp op (LockAnswer.Granted u m grant stamp room n) = op ≡ ops.Lock u m
IsAnsweredOp op (LockAnswer.Released u) = op ≡ ops.Unlock u
IsAnsweredOp op (LockAnswer.Removed u) = op ≡ ops.Delete u
IsAnsweredOp op a = Unit {0}

answered-op : (op : Op) (task : Option Task) (call : LockCall) (x : Answer) (a : LockAnswer) → lock_answer call x ≡ Some a → IsCallOf op task (Some (open_call call)) → IsAnsweredOp op a
answered-op op task (LockCall.Lock u m) (Answer.Granted grant stamp kind room n) a says of = subst (IsAnsweredOp op) (same_Some _ a says) of
answered-op op task (LockCall.Lock u m) (Answer.Conflict q held) a says of = subst (IsAnsweredOp op) (same_Some _ a says) tt
answered-op op task (LockCall.Lock u m) Answer.NoObject a says of = subst (IsAnsweredOp op) (same_Some _ a says) tt
answered-op op task (LockCall.Unlock u) Answer.Done a says of = subst (IsAnsweredOp op) (same_Some _ a says) of
answered-op op task (LockCall.Remove u) Answer.Done a says of = subst (IsAnsweredOp op) (same_Some _ a says) of
answered-op op task (LockCall.PageOut u k delete) (Answer.Stored stamp) a says of = subst (IsAnsweredOp op) (same_Some _ a says) tt
answered-op op task (LockCall.PageOut u k delete) (Answer.Stale stamp) a says of = subst (IsAnsweredOp op) (same_Some _ a says) tt
answered-op op task (LockCall.AttrOut u n delete) (Answer.Stored stamp) a says of = subst (IsAnsweredOp op) (same_Some _ a says) tt
answered-op op task (LockCall.AttrOut u n delete) (Answer.Stale stamp) a says of = subst (IsAnsweredOp op) (same_Some _ a says) tt
answered-op op task call x a says of = absurd (cc)

module _ (d e : DeskState) (p : ℕ) (v : ObjectName) (op : Op) where
  abbrev pub IsStateAfter : Turn → Type 0
  IsStateAfter (Turn.Ends reply) = state_of e p v ≡ state_after v op reply (state_of d p v)
  IsStateAfter (Turn.Asks home ask) = state_of e p v ≡ state_of d p v
  IsStateAfter (Turn.Waits u k) = state_of e p v ≡ state_of d p v

  -- where nothing is set
  pub left-so : (turn : Turn) → ((r : Reply) → state_after v op r (state_of d p v) ≡ state_of d p v) → state_of e p v ≡ state_of d p v → IsStateAfter turn
  left-so (Turn.Ends reply) quiet same = same ∙ sym (quiet reply)
  left-so (Turn.Asks home ask) quiet same = same
  left-so (Turn.Waits u k) quiet same = same

  module _ (c : Cause) (stays : ((u : ObjectName) → set_object c ≡ Some u → same_uid v u ≡ false) → state_of e p v ≡ state_of d p v) where
    unset : set_object c ≡ None → state_of e p v ≡ state_of d p v
    unset none = stays (λ u is. absurd (let e : None ≡ Some u = sym none ∙ is in cc))

    at-object : (u : ObjectName) (s : LockState) → set_object c ≡ Some u → state_of e p u ≡ s → state_of e p v ≡ (if same_uid v u then s else state_of d p v)
    at-object u s set now = by_cases (same_uid v u) (state_of e p v ≡ (if same_uid v u then s else state_of d p v))
        (λ same. ap (λ w. state_of e p w) (same_uid_is v u same) ∙ (now ∙ sym (ap (λ b. if b then s else state_of d p v) same)))
        (λ apart. stays (λ w is. subst (λ x. same_uid v x ≡ false) (same_Some u w (sym set ∙ is)) apart) ∙ sym (ap (λ b. if b then s else state_of d p v) apart))

    -- an answer
    ends-so : (o : Op) (r reply : Reply) → op ≡ o → Some r ≡ Some reply → state_of e p v ≡ state_after v o r (state_of d p v) → IsStateAfter (Turn.Ends reply)
    ends-so o r reply is gives now = subst (λ x. state_of e p v ≡ state_after v op x (state_of d p v)) (same_Some r reply gives) (subst (λ x. state_of e p v ≡ state_after v x r (state_of d p v)) (sym is) now)

    answer-ends : (a : LockAnswer) → c ≡ Cause.AnswerCame a → IsAnsweredOp op a → (reply : Reply) → answer_reply a ≡ Some reply → Leaves d p e a → IsStateAfter (Turn.Ends reply)
    answer-ends (LockAnswer.Granted u m grant stamp room n) is of reply gives leaves = ends-so (ops.Lock u m) replies.Fine reply of gives (at-object u (Held m) (ap set_object is) (ap state_in leaves.entry))
    answer-ends (LockAnswer.Released u) is of reply gives leaves = ends-so (ops.Unlock u) replies.Fine reply of gives (at-object u Free (ap set_object is) leaves)
    answer-ends (LockAnswer.Removed u) is of reply gives leaves = ends-so (ops.Delete u) replies.Fine reply of gives (at-object u Free (ap set_object is) leaves.free)
    answer-ends (LockAnswer.Refused q held) is of reply gives leaves = unset (ap set_object is) ∙ sym (quiet-after v (state_of d p v) op reply (subst (λ r. is_quiet r ≡ true) (same_Some (replies.Conflict q held) reply gives) refl))
    answer-ends (LockAnswer.Gone u) is of reply gives leaves = unset (ap set_object is) ∙ sym (quiet-after v (state_of d p v) op reply (subst (λ r. is_quiet r ≡ true) (same_Some replies.NoObject reply gives) refl))
    answer-ends (LockAnswer.PageSettled u delete taken stamp) is of reply gives leaves = absurd (cc)
    answer-ends (LockAnswer.LengthSettled u n delete taken stamp) is of reply gives leaves = absurd (cc)

    -- a link fault
    fault-so : (o : Op) (reply : Reply) → op ≡ o → reply ≡ replies.Doubt → state_of e p v ≡ state_after v o replies.Doubt (state_of d p v) → IsStateAfter (Turn.Ends reply)
    fault-so o reply is doubt now = ends-so o replies.Doubt reply is (ap (λ r. Some r) (sym doubt)) now

    kept-so : (reply : Reply) → reply ≡ replies.Kept → set_object c ≡ None → IsStateAfter (Turn.Ends reply)
    kept-so reply kept none = unset none ∙ sym (quiet-after v (state_of d p v) op reply (subst (λ r. is_quiet r ≡ true) (sym kept) refl))

    fault-ends : (call : LockCall) → c ≡ Cause.CallFailed call → IsCallOf op (task_of d p) (Some (open_call call)) → (reply : Reply) → reply ≡ fault_reply call → FaultLeaves d p e call → IsStateAfter (Turn.Ends reply)
    fault-ends (LockCall.Lock u m) is of reply gives leaves = fault-so (ops.Lock u m) reply of gives (at-object u (Taking m) (ap set_object is) leaves)
    fault-ends (LockCall.Unlock u) is of reply gives leaves = fault-so (ops.Unlock u) reply of gives (at-object u (Releasing (mode_at_home (state_of d p u))) (ap set_object is) leaves ∙ by_cases (same_uid v u) _
        (λ same. ap (λ w. if same_uid v u then Releasing (mode_at_home (state_of d p w)) else state_of d p v) (sym (same_uid_is v u same)))
        (λ apart. ap (λ b. if b then Releasing (mode_at_home (state_of d p u)) else state_of d p v) apart ∙ sym (ap (λ b. if b then Releasing (mode_at_home (state_of d p v)) else state_of d p v) apart)))
    fault-ends (LockCall.Remove u) is of reply gives leaves = fault-so (ops.Delete u) reply of gives (at-object u Deleting (ap set_object is) leaves)
    fault-ends (LockCall.PageOut u k delete) is of reply gives leaves = kept-so reply gives (ap set_object is)
    fault-ends (LockCall.AttrOut u n delete) is of reply gives leaves = kept-so reply gives (ap set_object is)

  abbrev Stays : Cause → Type 0
  Stays c = ((u : ObjectName) → set_object c ≡ Some u → same_uid v u ≡ false) → state_of e p v ≡ state_of d p v

  said-state : (c : Cause) (turn : Turn) → MayCome d p c → IsOf d p c op → Stays c → Said d e p c turn → IsStateAfter turn
  said-state (Cause.Accesses access) turn may of stays said = left-so turn (access-after v (state_of d p v) access op of) (unset (Cause.Accesses access) stays refl)
  said-state (Cause.PageCame a) turn may of stays said = left-so turn (task-after v (state_of d p v) op (task_of d p) (subst (IsCallOf op (task_of d p)) may.accessing of)) (unset (Cause.PageCame a) stays refl)
  said-state (Cause.AccessFailed t) turn may of stays said = left-so turn (task-after v (state_of d p v) op (task_of d p) (subst (IsCallOf op (task_of d p)) may.0 of)) (unset (Cause.AccessFailed t) stays refl)
  said-state (Cause.Locks u m) (Turn.Ends reply) may of stays said = unset (Cause.Locks u m) stays refl ∙ sym (quiet-after v (state_of d p v) op reply said)
  said-state (Cause.Locks u m) (Turn.Asks home ask) may of stays said = unset (Cause.Locks u m) stays refl
  said-state (Cause.Locks u m) (Turn.Waits w k) may of stays said = unset (Cause.Locks u m) stays refl
  said-state (Cause.Releases delete u) (Turn.Ends reply) may of stays said = unset (Cause.Releases delete u) stays refl ∙ sym (quiet-after v (state_of d p v) op reply said)
  said-state (Cause.Releases delete u) (Turn.Asks home ask) may of stays said = unset (Cause.Releases delete u) stays refl
  said-state (Cause.Releases delete u) (Turn.Waits w k) may of stays said = unset (Cause.Releases delete u) stays refl
  said-state (Cause.AnswerCame a) (Turn.Ends reply) may of stays said =
      answer-ends (Cause.AnswerCame a) stays a refl (answered-op op (task_of d p) may.call may.answer a may.says (subst (IsCallOf op (task_of d p)) may.opened of)) reply said.0 said.1
  said-state (Cause.AnswerCame a) (Turn.Asks home ask) may of stays said = unset (Cause.AnswerCame a) stays said
  said-state (Cause.AnswerCame a) (Turn.Waits w k) may of stays said = unset (Cause.AnswerCame a) stays said
  said-state (Cause.CallFailed call) (Turn.Ends reply) may of stays said = fault-ends (Cause.CallFailed call) stays call refl (subst (IsCallOf op (task_of d p)) may.1 of) reply said.0 said.1
  said-state (Cause.CallFailed call) (Turn.Asks home ask) may of stays said = absurd said
  said-state (Cause.CallFailed call) (Turn.Waits w k) may of stays said = absurd said

-- so after each call of a desk
pub made-state : (d : DeskState) (p : ℕ) (c : Cause) (m : Moved) → IsDesk d → IsProc p → MayCome d p c → (op : Op) → IsOf d p c op → IsMade c p d m → (v : ObjectName) → IsStateAfter d m.desk p v op m.turn
made-state d p c m desk proc may op of made v =
    said-state d m.desk p v op c m.turn may of (λ away. moves-state c m.turn p proc v away d m.desk m.dropped desk made.moves) (said-so d m.desk p c m.turn made.says)
