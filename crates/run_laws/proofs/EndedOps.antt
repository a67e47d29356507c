-- What ends an operation at an event: its own desk, the answer to its last call, or a link fault.
use Rattle.std.proofs.Common.{◌≡◌, ℕ, Bool, true, false, List, Option, Some, None, inl, inr, refl, sym, ap, subst, ◌∙◌}
use Rattle.std.specs.Prelude.{◌⊎◌}
use Rattle.std.proofs.lemmas.Option.{same_Some}
use Rattle.uid_names.specs.Names.{ObjectName, ProcName}
use Rattle.uid_names.specs.Openings.{Start}
use Rattle.dom_history.specs.declared.op.Op.{Op}
use Rattle.dom_history.specs.declared.op.Op.TheVariants as ops
use Rattle.dom_history.specs.declared.op.Reply.{Reply}
use Rattle.dom_history.specs.declared.op.Reply.TheVariants as replies
use Rattle.ring_messages.specs.Bodies.{Ask, Answer}
use Rattle.fault_handler.specs.declared.open_call.OpenCall.{OpenCall}
use Rattle.fault_handler.specs.declared.open_call.OpenCall.TheVariants as calls
use Rattle.fault_handler.specs.declared.tasks.Task.{Task}
use Rattle.fault_handler.specs.declared.transits.Transit.{Transit}
use Rattle.fault_handler.specs.Desks.{DeskState, open_call_of, task_of, moving_of}
use Rattle.fault_handler.specs.Outcomes.{Turn, Moved}
use Rattle.fault_handler.specs.Accesses.{DeskOp}
use Rattle.fault_handler.specs.LockCalls.{LockCall, LockAnswer, open_call, lock_answer}
use Rattle.fault_handler.specs.Invariant.{IsProc}
use Rattle.fault_handler.specs.Next.{release_op, IsCallOf, IsTaskOf, IsRequest, IsRequestOf}
use Rattle.lock_validate.specs.Causes.{Cause, MayCome, IsOf, op_of}
use Rattle.lock_validate.specs.Loading.{IsTaskIn}
use Rattle.lock_validate.specs.Refusals.{Refuses}
use Rattle.lock_validate.specs.Left.{answer_reply, fault_reply}
use Rattle.lock_validate.specs.Turns.{Says}
use Rattle.dom_history.specs.declared.event.What.{What}
use Rattle.node_runs.specs.Doings.{ticked}
use Rattle.node_runs.specs.Steps.{step_of}
use Rattle.node_runs.specs.SentFrames.{IsIncoming}
use Rattle.node_runs.proofs.Nodes.{node-with}
use Rattle.run_laws.proofs.DeskSteps.{step-desk}
use Rattle.node_runs.specs.Setups.{Given, IsGiven}
use Rattle.node_runs.specs.NodeStates.{Asked, Await, BegunOp, OpenOp, NodeState, proc_of, name_of}
use Rattle.node_runs.specs.Operations.{Said, said_to_new, said_to_list}
use Rattle.node_runs.specs.Incomings.{Incoming}
use Rattle.node_runs.specs.Notes.{Note}
use Rattle.node_runs.specs.Outcomes.{Stage, Stepped, end_note, open_note}
use Rattle.node_runs.specs.Dones.{asking}
use Rattle.node_runs.specs.Agreements.{IsCallOpen, IsCalling, Agrees}
use Rattle.node_runs.specs.NodesKeep.{IsNodeOf}
use Rattle.run_laws.specs.LastCalls.{HasNumber}
use Rattle.run_laws.specs.Progress.{IsApart}
use Rattle.run_laws.specs.DeskSteps.{Takes, IsTaken, IsStageOf, TellsHome, IsOfHome, IsHomeBegin, IsHomeTurn, OpMove, apart, moves, IsAt, turn_note, NodeMove, still, moved}
use Rattle.run_laws.specs.ToldAnswers.{TellsReply, IsReleaseFault, IsFaultOf, IsLockRefusal, IsLocalReply, IsEnded}

-- how the end of an operation is told, by its cause
abbrev EndsBy : Cause → Reply → Type 0
EndsBy (Cause.Accesses access) reply = Unit {0}
EndsBy (Cause.Locks u m) reply = IsLockRefusal reply
EndsBy (Cause.Releases delete u) reply = IsLocalReply (release_op delete u) reply
EndsBy (Cause.PageCame a) reply = Unit {0}
EndsBy (Cause.AnswerCame a) reply = answer_reply a ≡ Some reply
EndsBy (Cause.AccessFailed t) reply = reply ≡ replies.LinkFault
EndsBy (Cause.CallFailed call) reply = reply ≡ fault_reply call

abbrev EndsTurn : Cause → Turn → Type 0
EndsTurn c (Turn.Ends reply) = EndsBy c reply
EndsTurn c (Turn.Asks home ask) = Unit {0}
EndsTurn c (Turn.Waits u k) = Unit {0}

module _ (d e : DeskState) (p : ℕ) where
  task-ends : (c : Cause) (task : Task) (reply : Reply) → IsTaskIn d p c task → EndsBy c reply
  task-ends (Cause.Accesses access) task reply is = tt
  task-ends (Cause.PageCame a) task reply is = tt
  task-ends (Cause.Locks u m) task reply is = absurd is
  task-ends (Cause.Releases delete u) task reply is = absurd is
  task-ends (Cause.AnswerCame a) task reply is = absurd is
  task-ends (Cause.AccessFailed t) task reply is = absurd is
  task-ends (Cause.CallFailed call) task reply is = absurd is

  refused-ends : (c : Cause) (reply : Reply) → Refuses d p c reply → EndsBy c reply
  refused-ends c reply (Refuses.load_unmapped spot count none) = tt
  refused-ends c reply (Refuses.load_unheld spot count u offset found held) = tt
  refused-ends c reply (Refuses.load_past_end spot count u offset found held past) = tt
  refused-ends c reply (Refuses.store_unmapped spot bytes none) = tt
  refused-ends c reply (Refuses.store_unheld spot bytes u offset found held) = tt
  refused-ends c reply (Refuses.store_mode spot bytes u offset found held may) = tt
  refused-ends c reply (Refuses.store_past_room spot bytes u offset found held may past) = tt
  refused-ends c reply (Refuses.length_unheld u held) = tt
  refused-ends c reply (Refuses.map_unheld u held) = tt
  refused-ends c reply (Refuses.unmap_none u none) = tt
  refused-ends c reply (Refuses.lock_held u m held) = tt
  refused-ends c reply (Refuses.lock_unsettled u m held unsettled) = tt
  refused-ends c reply (Refuses.lock_full u m free full) = tt
  refused-ends c reply (Refuses.lock_elsewhere u m free room away) = tt
  refused-ends c reply (Refuses.unlock_free u free) = refl
  refused-ends c reply (Refuses.delete_unheld u held) = inl refl
  refused-ends c reply (Refuses.delete_mode u held may) = inr refl

  said-ends : (c : Cause) (turn : Turn) → Says d p e c turn → EndsTurn c turn
  said-ends c turn (Says.refuses cause reply refused same) = refused-ends c reply refused
  said-ends c turn (Says.loads cause task count r given work there) = task-ends c task _ given
  said-ends c turn (Says.stores cause task bytes r given work there within) = task-ends c task _ given
  said-ends c turn (Says.measures u held) = tt
  said-ends c turn (Says.maps u held) = tt
  said-ends c turn (Says.unmaps u mapped) = tt
  said-ends c turn (Says.answers a reply says leaves) = says
  said-ends c turn (Says.access_fails t) = refl
  said-ends c turn (Says.call_fails call leaves) = refl
  said-ends c turn says = tt

-- what the desk itself answers
task-reply : (op : Op) (task : Option Task) (reply : Reply) → IsTaskOf op task → IsLocalReply op reply
task-reply (ops.New home kind room) task reply is = absurd is
task-reply (ops.List home after) task reply is = absurd is
task-reply (ops.Lock u m) task reply is = absurd is
task-reply (ops.Unlock u) task reply is = absurd is
task-reply (ops.Delete u) task reply is = absurd is
task-reply (ops.Load spot count) task reply is = tt
task-reply (ops.Store spot bytes) task reply is = tt
task-reply (ops.Length u) task reply is = tt
task-reply (ops.Map u) task reply is = tt
task-reply (ops.Unmap u) task reply is = tt

access-reply : (access : DeskOp) (reply : Reply) → IsLocalReply (op_of access) reply
access-reply (DeskOp.Loads spot count) reply = tt
access-reply (DeskOp.Stores spot bytes) reply = tt
access-reply (DeskOp.Measures u) reply = tt
access-reply (DeskOp.Maps u) reply = tt
access-reply (DeskOp.Unmaps u) reply = tt

begin-reply : (opening : Start) (op : Op) (reply : Reply) → IsHomeBegin opening op (Turn.Ends reply) → IsLocalReply op reply
begin-reply opening (ops.New home kind room) reply is = is.0
begin-reply opening (ops.List home after) reply is = is.0
begin-reply opening (ops.Lock u m) reply is = absurd is
begin-reply opening (ops.Unlock u) reply is = absurd is
begin-reply opening (ops.Delete u) reply is = absurd is
begin-reply opening (ops.Load spot count) reply is = tt
begin-reply opening (ops.Store spot bytes) reply is = tt
begin-reply opening (ops.Length u) reply is = tt
begin-reply opening (ops.Map u) reply is = tt
begin-reply opening (ops.Unmap u) reply is = tt

module _ (d : DeskState) (p : ℕ) (op : Op) (reply : Reply) where
  -- where an operation begins
  started-reply : (c : Cause) → IsStageOf Stage.Starts c → IsOf d p c op → EndsBy c reply → IsLocalReply op reply
  started-reply (Cause.Accesses access) at of ends = subst (λ x. IsLocalReply x reply) (sym of) (access-reply access reply)
  started-reply (Cause.Locks u m) at of ends = subst (λ x. IsLocalReply x reply) (sym of) ends
  started-reply (Cause.Releases delete u) at of ends = subst (λ x. IsLocalReply x reply) (sym of) ends
  started-reply (Cause.PageCame a) at of ends = absurd at
  started-reply (Cause.AnswerCame a) at of ends = absurd at
  started-reply (Cause.AccessFailed t) at of ends = absurd at
  started-reply (Cause.CallFailed call) at of ends = absurd at

  -- where it goes on
  resumed-reply : (c : Cause) (may : MayCome d p c) → IsStageOf Stage.Resumes c → IsOf d p c op → EndsBy c reply → IsLocalReply op reply
  resumed-reply (Cause.Accesses access) may at of ends = subst (λ x. IsLocalReply x reply) (sym of) (access-reply access reply)
  resumed-reply (Cause.Releases delete u) may at of ends = subst (λ x. IsLocalReply x reply) (sym of) ends
  resumed-reply (Cause.PageCame a) may at of ends = task-reply op (task_of d p) reply (subst (IsCallOf op (task_of d p)) may.accessing of)
  resumed-reply (Cause.Locks u m) may at of ends = absurd at
  resumed-reply (Cause.AnswerCame a) may at of ends = absurd at
  resumed-reply (Cause.AccessFailed t) may at of ends = absurd at
  resumed-reply (Cause.CallFailed call) may at of ends = absurd at

-- an answer to an open call
module _ (op : Op) (task : Option Task) (reply : Reply) where
  abbrev reply_is : (a : LockAnswer) (x : LockAnswer) → Some x ≡ Some a → answer_reply a ≡ Some reply → answer_reply x ≡ Some reply
  reply_is a x says ends = ap answer_reply (same_Some x a says) ∙ ends

  call-tells : (call : LockCall) (x : Answer) (a : LockAnswer) → lock_answer call x ≡ Some a → answer_reply a ≡ Some reply → IsCallOf op task (Some (open_call call)) → TellsReply op reply x
  call-tells (LockCall.Lock u m) (Answer.Granted grant stamp kind room n) a says ends of = subst (λ o. TellsReply o reply (Answer.Granted grant stamp kind room n)) (sym of) (sym (same_Some _ reply (reply_is a _ says ends)))
  call-tells (LockCall.Lock u m) (Answer.Conflict q held) a says ends of = subst (λ o. TellsReply o reply (Answer.Conflict q held)) (sym of) (sym (same_Some _ reply (reply_is a _ says ends)))
  call-tells (LockCall.Lock u m) Answer.NoObject a says ends of = subst (λ o. TellsReply o reply Answer.NoObject) (sym of) (sym (same_Some _ reply (reply_is a _ says ends)))
  call-tells (LockCall.Unlock u) Answer.Done a says ends of = subst (λ o. TellsReply o reply Answer.Done) (sym of) (sym (same_Some _ reply (reply_is a _ says ends)))
  call-tells (LockCall.Remove u) Answer.Done a says ends of = subst (λ o. TellsReply o reply Answer.Done) (sym of) (sym (same_Some _ reply (reply_is a _ says ends)))
  call-tells (LockCall.PageOut u k delete) (Answer.Stored stamp) a says ends of = absurd (let e = reply_is a _ says ends in cc)
  call-tells (LockCall.PageOut u k delete) (Answer.Stale stamp) a says ends of = absurd (let e = reply_is a _ says ends in cc)
  call-tells (LockCall.AttrOut u n delete) (Answer.Stored stamp) a says ends of = absurd (let e = reply_is a _ says ends in cc)
  call-tells (LockCall.AttrOut u n delete) (Answer.Stale stamp) a says ends of = absurd (let e = reply_is a _ says ends in cc)
  call-tells call x a says ends of = absurd (cc)

task-fault : (op : Op) (task : Option Task) (ask : Ask) → IsTaskOf op task → IsFaultOf op ask replies.LinkFault
task-fault (ops.Load spot count) task ask is = refl
task-fault (ops.Store spot bytes) task ask is = refl
task-fault (ops.New home kind room) task ask is = absurd is
task-fault (ops.List home after) task ask is = absurd is
task-fault (ops.Lock u m) task ask is = absurd is
task-fault (ops.Unlock u) task ask is = absurd is
task-fault (ops.Delete u) task ask is = absurd is
task-fault (ops.Length u) task ask is = absurd is
task-fault (ops.Map u) task ask is = absurd is
task-fault (ops.Unmap u) task ask is = absurd is

release-fault : (delete : Bool) (u : ObjectName) (ask : Ask) (reply : Reply) → IsReleaseFault ask reply → IsFaultOf (release_op delete u) ask reply
release-fault true u ask reply is = is
release-fault false u ask reply is = is

-- a call that is given up
module _ (moving : Option Transit) where
  page-fault : (u : ObjectName) (k : ℕ) (delete : Bool) (ask : Ask) → IsRequestOf moving (calls.PageOut u k delete) ask → IsReleaseFault ask replies.Kept
  page-fault u k delete (Ask.PageOut v j grant base bytes) is = refl
  page-fault u k delete (Ask.PageIn v j) is = absurd is
  page-fault u k delete (Ask.AttrOut v n grant base) is = absurd is
  page-fault u k delete (Ask.Lock v m) is = absurd is
  page-fault u k delete (Ask.Unlock v) is = absurd is
  page-fault u k delete (Ask.Remove v) is = absurd is
  page-fault u k delete (Ask.Make kind room) is = absurd is
  page-fault u k delete (Ask.ListLocks after) is = absurd is

  length-fault : (u : ObjectName) (n : ℕ) (delete : Bool) (ask : Ask) → IsRequestOf moving (calls.AttrOut u n delete) ask → IsReleaseFault ask replies.Kept
  length-fault u n delete (Ask.AttrOut v m grant base) is = refl
  length-fault u n delete (Ask.PageIn v j) is = absurd is
  length-fault u n delete (Ask.PageOut v j grant base bytes) is = absurd is
  length-fault u n delete (Ask.Lock v m) is = absurd is
  length-fault u n delete (Ask.Unlock v) is = absurd is
  length-fault u n delete (Ask.Remove v) is = absurd is
  length-fault u n delete (Ask.Make kind room) is = absurd is
  length-fault u n delete (Ask.ListLocks after) is = absurd is

  unlock-fault : (u : ObjectName) (ask : Ask) → IsRequestOf moving (calls.Unlock u) ask → IsReleaseFault ask replies.Doubt
  unlock-fault u (Ask.Unlock v) is = refl
  unlock-fault u (Ask.Remove v) is = absurd is
  unlock-fault u (Ask.PageIn v j) is = absurd is
  unlock-fault u (Ask.PageOut v j grant base bytes) is = absurd is
  unlock-fault u (Ask.AttrOut v n grant base) is = absurd is
  unlock-fault u (Ask.Lock v m) is = absurd is
  unlock-fault u (Ask.Make kind room) is = absurd is
  unlock-fault u (Ask.ListLocks after) is = absurd is

  remove-fault : (u : ObjectName) (ask : Ask) → IsRequestOf moving (calls.Remove u) ask → IsReleaseFault ask replies.Doubt
  remove-fault u (Ask.Remove v) is = refl
  remove-fault u (Ask.Unlock v) is = absurd is
  remove-fault u (Ask.PageIn v j) is = absurd is
  remove-fault u (Ask.PageOut v j grant base bytes) is = absurd is
  remove-fault u (Ask.AttrOut v n grant base) is = absurd is
  remove-fault u (Ask.Lock v m) is = absurd is
  remove-fault u (Ask.Make kind room) is = absurd is
  remove-fault u (Ask.ListLocks after) is = absurd is

  call-fault : (op : Op) (task : Option Task) (ask : Ask) (call : LockCall) → IsCallOf op task (Some (open_call call)) → IsRequestOf moving (open_call call) ask → IsFaultOf op ask (fault_reply call)
  call-fault op task ask (LockCall.Lock u m) of request = subst (λ o. IsFaultOf o ask replies.Doubt) (sym of) refl
  call-fault op task ask (LockCall.PageOut u k delete) of request = subst (λ o. IsFaultOf o ask replies.Kept) (sym of) (release-fault delete u ask replies.Kept (page-fault u k delete ask request))
  call-fault op task ask (LockCall.AttrOut u n delete) of request = subst (λ o. IsFaultOf o ask replies.Kept) (sym of) (release-fault delete u ask replies.Kept (length-fault u n delete ask request))
  call-fault op task ask (LockCall.Unlock u) of request = subst (λ o. IsFaultOf o ask replies.Doubt) (sym of) (unlock-fault u ask request)
  call-fault op task ask (LockCall.Remove u) of request = subst (λ o. IsFaultOf o ask replies.Doubt) (sym of) (remove-fault u ask request)

-- the request of an operation with a call of its desk
pub op-request : (d : DeskState) (p : ℕ) (op : Op) (ask : Ask) (o : OpenCall) → open_call_of d p ≡ Some o → IsCallOf op (task_of d p) (Some o) → IsCalling d p op ask → IsRequestOf (moving_of d p) o ask
op-request d p op ask o opened of calling = by op calling
  where
    asked : IsCallOpen d p op ask → IsRequestOf (moving_of d p) o ask
    asked is = subst (λ c. IsRequest (moving_of d p) c ask) opened is.request

    none : open_call_of d p ≡ None → IsRequestOf (moving_of d p) o ask
    none e = absurd (let f : None ≡ Some o = sym e ∙ opened in cc)

    by : (op : Op) → IsCalling d p op ask → IsRequestOf (moving_of d p) o ask
    by (ops.New home kind room) is = none is.0.no_call
    by (ops.List home after) is = none is.0.no_call
    by (ops.Lock u m) is = subst (λ c. IsRequest (moving_of d p) c ask) opened is.request
    by (ops.Unlock u) is = subst (λ c. IsRequest (moving_of d p) c ask) opened is.request
    by (ops.Delete u) is = subst (λ c. IsRequest (moving_of d p) c ask) opened is.request
    by (ops.Load spot count) is = subst (λ c. IsRequest (moving_of d p) c ask) opened is.request
    by (ops.Store spot bytes) is = subst (λ c. IsRequest (moving_of d p) c ask) opened is.request
    by (ops.Length u) is = subst (λ c. IsRequest (moving_of d p) c ask) opened is.request
    by (ops.Map u) is = subst (λ c. IsRequest (moving_of d p) c ask) opened is.request
    by (ops.Unmap u) is = subst (λ c. IsRequest (moving_of d p) c ask) opened is.request

-- what a home's word tells to a new object or a list
home-tells : (op : Op) (x : Answer) (reply : Reply) → TellsHome op x reply → TellsReply op reply x
home-tells (ops.New home kind room) x reply tells = new x tells
  where
    back : (r : Reply) → Some (Said.Replies r) ≡ Some (Said.Replies reply) → reply ≡ r
    back r e = cc

    new : (x : Answer) → said_to_new x ≡ Some (Said.Replies reply) → TellsReply (ops.New home kind room) reply x
    new (Answer.Made u) e = back (replies.Made u) e
    new Answer.NoSpace e = back replies.NoSpace e
    new x e = absurd (cc)
home-tells (ops.List home after) x reply tells = list x tells
  where
    back : (r : Reply) → Some (Said.Replies r) ≡ Some (Said.Replies reply) → reply ≡ r
    back r e = cc

    list : (x : Answer) → said_to_list x ≡ Some (Said.Replies reply) → TellsReply (ops.List home after) reply x
    list (Answer.Listed rows more) e = back (replies.Locks rows more) e
    list x e = absurd (cc)
home-tells (ops.Lock u m) x reply tells = absurd tells
home-tells (ops.Unlock u) x reply tells = absurd tells
home-tells (ops.Delete u) x reply tells = absurd tells
home-tells (ops.Load spot count) x reply tells = absurd tells
home-tells (ops.Store spot bytes) x reply tells = absurd tells
home-tells (ops.Length u) x reply tells = absurd tells
home-tells (ops.Map u) x reply tells = absurd tells
home-tells (ops.Unmap u) x reply tells = absurd tells

home-fault : (op : Op) (ask : Ask) → IsOfHome op → IsFaultOf op ask replies.LinkFault
home-fault (ops.New home kind room) ask is = refl
home-fault (ops.List home after) ask is = refl
home-fault (ops.Lock u m) ask is = absurd is
home-fault (ops.Unlock u) ask is = absurd is
home-fault (ops.Delete u) ask is = absurd is
home-fault (ops.Load spot count) ask is = absurd is
home-fault (ops.Store spot bytes) ask is = absurd is
home-fault (ops.Length u) ask is = absurd is
home-fault (ops.Map u) ask is = absurd is
home-fault (ops.Unmap u) ask is = absurd is

module _ (g : Given) (n : NodeState) (incoming : Incoming) (s : Stepped) (is : IsNodeOf g n) where
  abbrev IsEndBy : ℕ → BegunOp → Ask → Reply → Type 0
  IsEndBy p o ask reply = IsFaultOf o.op ask reply ⊎ ((answer : Answer) × Takes incoming p (proc_of n p).doing answer × TellsReply o.op reply answer)

  module _ (p : ℕ) (proc : IsProc p) (o : BegunOp) (c : Asked) (calling : IsCalling n.desk p o.op c.ask) (number : ℕ) (reply : Reply) where
    home-ends : IsHomeTurn g.opening incoming p (proc_of n p).doing (Stage.Settles number) o.op (Turn.Ends reply) → IsEndBy p o c.ask reply
    home-ends turn = elim turn.1 [
      | inl fault ↦ inl (subst (IsFaultOf o.op c.ask) (sym fault) (home-fault o.op c.ask turn.0))
      | inr word ↦ inr (word.0, word.1, home-tells o.op word.0 reply word.2)
    ]

    settled-ends : (cause : Cause) (may : MayCome n.desk p cause) → IsOf n.desk p cause o.op → IsStageOf (Stage.Settles number) cause → IsTaken incoming n.desk p (proc_of n p).doing cause may → EndsBy cause reply → IsEndBy p o c.ask reply
    settled-ends (Cause.AnswerCame a) may of at taken ends = inr (may.answer, taken, call-tells o.op (task_of n.desk p) reply may.call may.answer a may.says ends (subst (IsCallOf o.op (task_of n.desk p)) may.opened of))
    settled-ends (Cause.AccessFailed t) may of at taken ends = inl (subst (IsFaultOf o.op c.ask) (sym ends) (task-fault o.op (task_of n.desk p) c.ask (subst (IsCallOf o.op (task_of n.desk p)) may.0 of)))
    settled-ends (Cause.CallFailed call) may of at taken ends =
        let called = subst (IsCallOf o.op (task_of n.desk p)) may.1 of in
        inl (subst (IsFaultOf o.op c.ask) (sym ends) (call-fault (moving_of n.desk p) o.op (task_of n.desk p) c.ask call called (op-request n.desk p o.op c.ask (open_call call) may.1 called calling)))
    settled-ends (Cause.Accesses access) may of at taken ends = absurd at
    settled-ends (Cause.Locks u m) may of at taken ends = absurd at
    settled-ends (Cause.Releases delete u) may of at taken ends = absurd at
    settled-ends (Cause.PageCame a) may of at taken ends = absurd at

  -- the operation of a process ends
  module _ (p : ℕ) (proc : IsProc p) (o : BegunOp) (m : Moved) (reply : Reply) (ends : m.turn ≡ Turn.Ends reply) where
    desk-ends : (stage : Stage) → OpMove g.opening incoming (proc_of n p).doing stage n.desk p o.op m → IsAt (proc_of n p).doing o stage → IsEnded g n incoming (end_note stage (name_of g p) (proc_of n p).phase o reply)
    desk-ends Stage.Starts (apart desk turn) at = begin-reply g.opening o.op reply (subst (IsHomeBegin g.opening o.op) ends turn)
    desk-ends Stage.Starts (moves c may of at_stage taken made) at = started-reply n.desk p o.op reply c at_stage of (subst (EndsTurn c) ends (said-ends n.desk m.desk p c m.turn made.says))
    desk-ends Stage.Resumes (apart desk turn) at = absurd (subst (IsHomeTurn g.opening incoming p (proc_of n p).doing Stage.Resumes o.op) ends turn)
    desk-ends Stage.Resumes (moves c may of at_stage taken made) at = resumed-reply n.desk p o.op reply c may at_stage of (subst (EndsTurn c) ends (said-ends n.desk m.desk p c m.turn made.says))
    desk-ends (Stage.Settles number) move at = settle (proc_of n p).doing refl at
      where
        by-call : (r : OpenOp) (c : Asked) → (proc_of n p).doing ≡ Some r → r.awaits ≡ Await.Answer c → o ≡ r.began → c.waiting.number ≡ number → IsEnded g n incoming (end_note (Stage.Settles number) (name_of g p) (proc_of n p).phase o reply)
        by-call r c doing awaits began is_number =
            let open_now : (proc_of n p).doing ≡ asking o c = doing ∙ ap (λ (z : BegunOp × Await). Some (let x : OpenOp = record { began = z.0; awaits = z.1 } in x)) (let e : (r.began, r.awaits) ≡ (o, Await.Answer c) = ap (λ b. (b, r.awaits)) (sym began) ∙ ap (λ a. (o, a)) awaits in e) in
            let agrees = subst (Agrees n.desk p (proc_of n p).last) open_now (is.agrees p proc) in
            record {
              proc = p;
              owner = proc;
              named = refl;
              call = c;
              doing = open_now;
              number = sym is_number;
              by = elim move [
                | apart desk turn ↦ home-ends p proc o c agrees.1.0 number reply (subst (IsHomeTurn g.opening incoming p (proc_of n p).doing (Stage.Settles number) o.op) ends turn)
                | moves cause may of at_stage taken made ↦ settled-ends p proc o c agrees.1.0 number reply cause may of at_stage taken (subst (EndsTurn cause) ends (said-ends n.desk m.desk p cause m.turn made.says))
              ];
            }

        by-await : (r : OpenOp) (a : Await) → (proc_of n p).doing ≡ Some r → r.awaits ≡ a → o ≡ r.began → HasNumber number a → IsEnded g n incoming (end_note (Stage.Settles number) (name_of g p) (proc_of n p).phase o reply)
        by-await r (Await.Answer c) doing awaits began has = by-call r c doing awaits began has
        by-await r (Await.Page u k) doing awaits began has = absurd has

        settle : (doing : Option OpenOp) → (proc_of n p).doing ≡ doing → IsAt doing o (Stage.Settles number) → IsEnded g n incoming (end_note (Stage.Settles number) (name_of g p) (proc_of n p).phase o reply)
        settle None doing at = absurd at
        settle (Some r) doing at = by-await r r.awaits doing refl at.0 at.1

  open-ended : (stage : Stage) (name : ProcName) (o : BegunOp) → IsEnded g n incoming (open_note stage name o)
  open-ended Stage.Starts name o = tt
  open-ended Stage.Resumes name o = tt
  open-ended (Stage.Settles number) name o = tt

  apart-ended : (note : Note) → IsApart note → IsEnded g n incoming note
  apart-ended Note.Nothing quiet = tt
  apart-ended (Note.Decided q k ask answer) quiet = tt
  apart-ended (Note.Began q op) quiet = absurd quiet
  apart-ended (Note.Did q phase op reply) quiet = absurd quiet
  apart-ended (Note.Ended t) quiet = absurd quiet

  pub node-ended : NodeMove g n incoming s → IsEnded g n incoming s.note
  node-ended (still desk same quiet uncalled) = apart-ended s.note quiet
  node-ended (moved p o stage m proc at made desk doing others note call side) = subst (IsEnded g n incoming) (sym note) (by m.turn refl)
    where
      by : (turn : Turn) → m.turn ≡ turn → IsEnded g n incoming (turn_note stage (name_of g p) (proc_of n p).phase o turn)
      by (Turn.Ends reply) ends = desk-ends p proc o m reply ends stage made at
      by (Turn.Asks home ask) ends = open-ended stage (name_of g p) o
      by (Turn.Waits u k) ends = open-ended stage (name_of g p) o

-- so at each step of a node
pub step-ended : (g : Given) (n : NodeState) (what : What) (incoming : Incoming) (dropped : List (ObjectName × ℕ)) (s : Stepped) → IsGiven g → IsNodeOf g n → IsIncoming incoming → step_of g n what incoming dropped ≡ Some s → IsEnded g (ticked n incoming) incoming s.note
step-ended g n what incoming dropped s given is frame e =
    node-ended g (ticked n incoming) incoming s (node-with g n (ticked n incoming) is refl refl is.side is.home is.within.side) (step-desk g n what incoming dropped s given is frame e)
