-- In every node an open unlock or delete keeps its lock in a mode that writes, until its release is sent.
use Rattle.std.proofs.Common.{◌≡◌, ◌≢◌, ℕ, Bool, true, false, List, Option, Some, None, inl, inr, refl, sym, ap, subst, ◌∙◌}
use Rattle.std.proofs.lemmas.Bool.{cases_eq}
use Rattle.std.proofs.lemmas.Option.{same_Some}
use Rattle.uid_names.specs.Names.{ObjectName}
use Rattle.uid_names.specs.Openings.{Start}
use Rattle.dom_history.specs.declared.op.Op.{Op}
use Rattle.dom_history.specs.declared.op.Op.TheVariants as ops
use Rattle.dom_history.specs.declared.event.What.{What}
use Rattle.dom_history.specs.Objects.{is_node}
use Rattle.dom_history.specs.Replies.{may_delete}
use Rattle.ring_messages.specs.Bodies.{Ask, Answer}
use Rattle.fault_handler.specs.declared.entries.LockEntry.{LockEntry}
use Rattle.fault_handler.specs.declared.open_call.OpenCall.{OpenCall}
use Rattle.fault_handler.specs.declared.open_call.OpenCall.TheVariants as calls
use Rattle.fault_handler.specs.declared.tasks.Task.{Task}
use Rattle.fault_handler.specs.Entries.{grant_in, keeps_writing}
use Rattle.fault_handler.specs.Desks.{DeskState, entries_of, entry_at, state_of, open_call_of, task_of, moving_of}
use Rattle.fault_handler.specs.Outcomes.{Turn, Moved}
use Rattle.fault_handler.specs.Accesses.{DeskOp}
use Rattle.fault_handler.specs.LockCalls.{LockCall, LockAnswer, open_call, lock_answer}
use Rattle.fault_handler.specs.Invariant.{IsProc, is_access}
use Rattle.fault_handler.specs.Ready.{IsReadyAt}
use Rattle.fault_handler.specs.Next.{release_op, IsCallOf, IsTaskOf, IsRequest, IsRequestOf}
use Rattle.fault_handler.proofs.Fours.{by_proc}
use Rattle.lock_validate.specs.Releases.{release_ask}
use Rattle.lock_validate.specs.Causes.{Cause, MayCome, IsOf, op_of}
use Rattle.lock_validate.specs.Loading.{IsTaskIn}
use Rattle.lock_validate.specs.Releasing.{releasing_in}
use Rattle.lock_validate.specs.Turns.{Says}
use Rattle.lock_validate.proofs.Beside.{moves-beside}
use Rattle.node_runs.specs.Setups.{Setup, IsSetup, Given, IsGiven, given}
use Rattle.node_runs.specs.NodeStates.{Asked, Await, BegunOp, OpenOp, ProcState, NodeState, first_node, proc_of}
use Rattle.node_runs.specs.Incomings.{Incoming}
use Rattle.node_runs.specs.Outcomes.{Stage, Stepped, next_call}
use Rattle.node_runs.specs.Doings.{ticked}
use Rattle.node_runs.specs.Steps.{step_of}
use Rattle.node_runs.specs.Agreements.{IsCallOpen, IsCalling, Agrees}
use Rattle.node_runs.specs.SentFrames.{IsFrame, IsIncoming}
use Rattle.node_runs.specs.NodesKeep.{IsNodeOf, Reached, starts, steps, IsTimely}
use Rattle.node_runs.specs.Runs.{World, Choice, world_after}
use Rattle.node_runs.proofs.Receiving.{incoming-is}
use Rattle.node_runs.proofs.Calls.{put-same, put-other}
use Rattle.node_runs.proofs.Reaching.{step_of-keeps, Reached-keeps}
use Rattle.node_runs.proofs.SettingUp.{setup-gives, setup-procs}
use Rattle.run_laws.proofs.HearingRuns.{IsKeptNext, every-kept-run}
use Rattle.run_laws.specs.DeskSteps.{IsHomeAsk, IsHomeBegin, IsHomeTurn, OpMove, apart, moves, doing_after, IsSameAwait, IsSameDoing, NodeMove, still, moved}
use Rattle.run_laws.specs.OpenCalls.{Carries, CarriesOpen, AreCarried}
use Rattle.run_laws.specs.WaitingReleases.{SendsHome, IsReleaseOpen, IsOpenRelease, AreOpenReleases}
use Rattle.run_laws.proofs.DeskSteps.{home-asks, step-desk}
use Rattle.run_laws.proofs.OpenCalls.{step-carries, reached-carries, runs-carry}

-- the grant under which a page or a length goes home before a release
abbrev IsOwnGrant : DeskState → ℕ → Ask → Type 0
IsOwnGrant d p (Ask.PageOut v k grant base bytes) = grant_in (entry_at d.entries p v) ≡ grant
IsOwnGrant d p (Ask.AttrOut v n grant base) = grant_in (entry_at d.entries p v) ≡ grant
IsOwnGrant d p ask = Unit {0}

abbrev IsTurnGrant : DeskState → ℕ → Turn → Type 0
IsTurnGrant d p (Turn.Ends reply) = Unit {0}
IsTurnGrant d p (Turn.Asks home ask) = IsOwnGrant d p ask
IsTurnGrant d p (Turn.Waits u k) = Unit {0}

release-grant : (d : DeskState) (p : ℕ) (delete : Bool) (u : ObjectName) → IsOwnGrant d p (release_ask delete u)
release-grant d p true u = tt
release-grant d p false u = tt

module _ (d e : DeskState) (p : ℕ) where
  -- no access sends a page then
  said-grant : (c : Cause) (turn : Turn) → Says d p e c turn → is_access (open_call_of e p) ≡ false → IsTurnGrant e p turn
  said-grant c turn (Says.sends_room cause task r given room) none = absurd (let f : true ≡ false = sym (ap is_access room.accessing) ∙ none in cc)
  said-grant c turn (Says.asks_page cause task given fetches) none = tt
  said-grant c turn (Says.sends_page cause delete u k r given opened sends) none = refl
  said-grant c turn (Says.sends_length cause delete u n given opened changed) none = refl
  said-grant c turn (Says.asks_lock u m opened) none = tt
  said-grant c turn (Says.gives_up cause delete u given opened may settled) none = release-grant e p delete u
  said-grant c turn says none = tt

-- an operation that moves a page is a load or a store
task-open : (entries : List LockEntry) (op : Op) (task : Option Task) (a : Await) → IsTaskOf op task → IsReleaseOpen entries op a
task-open entries (ops.Unlock u) None a is = absurd is
task-open entries (ops.Unlock u) (Some task) a is = absurd is
task-open entries (ops.Delete u) None a is = absurd is
task-open entries (ops.Delete u) (Some task) a is = absurd is
task-open entries (ops.New home kind room) task a is = tt
task-open entries (ops.List home after) task a is = tt
task-open entries (ops.Lock u m) task a is = tt
task-open entries (ops.Load spot count) task a is = tt
task-open entries (ops.Store spot bytes) task a is = tt
task-open entries (ops.Length u) task a is = tt
task-open entries (ops.Map u) task a is = tt
task-open entries (ops.Unmap u) task a is = tt

-- what the open call asks
-- a new object or a list sends nothing home
home-grant : (d : DeskState) (p : ℕ) (op : Op) (to : ℕ) (ask : Ask) → IsHomeAsk op to ask → IsOwnGrant d p ask
home-grant d p (ops.New home kind room) to ask is = subst (IsOwnGrant d p) (sym is.1) tt
home-grant d p (ops.List home after) to ask is = subst (IsOwnGrant d p) (sym is.1) tt
home-grant d p (ops.Lock u m) to ask is = absurd is
home-grant d p (ops.Unlock u) to ask is = absurd is
home-grant d p (ops.Delete u) to ask is = absurd is
home-grant d p (ops.Load spot count) to ask is = absurd is
home-grant d p (ops.Store spot bytes) to ask is = absurd is
home-grant d p (ops.Length u) to ask is = absurd is
home-grant d p (ops.Map u) to ask is = absurd is
home-grant d p (ops.Unmap u) to ask is = absurd is

module _ (e : DeskState) (p : ℕ) (op : Op) (c : Asked) (carries : Carries e p c.ask) where
  abbrev Result : Op → Ask → Type 0
  Result op ask = IsReleaseOpen (entries_of e p) op (Await.Answer (record c { ask = ask }))

  page-open : (u : ObjectName) (k : ℕ) (delete : Bool) → keeps_writing (entry_at e.entries p u) ≡ true → (delete ≡ true → may_delete (state_of e p u) ≡ true) → (ask : Ask) → IsRequestOf (moving_of e p) (calls.PageOut u k delete) ask → IsOwnGrant e p ask → Result (release_op delete u) ask
  page-open u k true writes may (Ask.PageOut v j grant base bytes) is own = ((is.0, writes, subst (λ w. grant_in (entry_at e.entries p w) ≡ grant) is.0 own), may refl)
  page-open u k false writes may (Ask.PageOut v j grant base bytes) is own = (is.0, writes, subst (λ w. grant_in (entry_at e.entries p w) ≡ grant) is.0 own)
  page-open u k delete writes may (Ask.PageIn v j) is own = absurd is
  page-open u k delete writes may (Ask.AttrOut v n grant base) is own = absurd is
  page-open u k delete writes may (Ask.Lock v m) is own = absurd is
  page-open u k delete writes may (Ask.Unlock v) is own = absurd is
  page-open u k delete writes may (Ask.Remove v) is own = absurd is
  page-open u k delete writes may (Ask.Make kind room) is own = absurd is
  page-open u k delete writes may (Ask.ListLocks after) is own = absurd is

  length-open : (u : ObjectName) (n : ℕ) (delete : Bool) → keeps_writing (entry_at e.entries p u) ≡ true → (delete ≡ true → may_delete (state_of e p u) ≡ true) → (ask : Ask) → IsRequestOf (moving_of e p) (calls.AttrOut u n delete) ask → IsOwnGrant e p ask → Result (release_op delete u) ask
  length-open u n true writes may (Ask.AttrOut v m grant base) is own = ((is.0, writes, subst (λ w. grant_in (entry_at e.entries p w) ≡ grant) is.0 own), may refl)
  length-open u n false writes may (Ask.AttrOut v m grant base) is own = (is.0, writes, subst (λ w. grant_in (entry_at e.entries p w) ≡ grant) is.0 own)
  length-open u n delete writes may (Ask.PageIn v j) is own = absurd is
  length-open u n delete writes may (Ask.PageOut v j grant base bytes) is own = absurd is
  length-open u n delete writes may (Ask.Lock v m) is own = absurd is
  length-open u n delete writes may (Ask.Unlock v) is own = absurd is
  length-open u n delete writes may (Ask.Remove v) is own = absurd is
  length-open u n delete writes may (Ask.Make kind room) is own = absurd is
  length-open u n delete writes may (Ask.ListLocks after) is own = absurd is

  unlock-open : (u : ObjectName) (ask : Ask) → IsRequestOf (moving_of e p) (calls.Unlock u) ask → Result (ops.Unlock u) ask
  unlock-open u (Ask.Unlock v) is = ap Ask.Unlock is
  unlock-open u (Ask.Remove v) is = absurd is
  unlock-open u (Ask.PageIn v j) is = absurd is
  unlock-open u (Ask.PageOut v j grant base bytes) is = absurd is
  unlock-open u (Ask.AttrOut v n grant base) is = absurd is
  unlock-open u (Ask.Lock v m) is = absurd is
  unlock-open u (Ask.Make kind room) is = absurd is
  unlock-open u (Ask.ListLocks after) is = absurd is

  remove-open : (u : ObjectName) (ask : Ask) → IsRequestOf (moving_of e p) (calls.Remove u) ask → Carries e p ask → Result (ops.Delete u) ask
  remove-open u (Ask.Remove v) is carries = (ap Ask.Remove is, subst (λ w. may_delete (state_of e p w) ≡ true) is carries.1)
  remove-open u (Ask.Unlock v) is carries = absurd is
  remove-open u (Ask.PageIn v j) is carries = absurd is
  remove-open u (Ask.PageOut v j grant base bytes) is carries = absurd is
  remove-open u (Ask.AttrOut v n grant base) is carries = absurd is
  remove-open u (Ask.Lock v m) is carries = absurd is
  remove-open u (Ask.Make kind room) is carries = absurd is
  remove-open u (Ask.ListLocks after) is carries = absurd is

  by-call : (o : Option OpenCall) → open_call_of e p ≡ o → (is_access (open_call_of e p) ≡ false → IsOwnGrant e p c.ask) → IsReadyAt e p o → IsCallOf op (task_of e p) o → IsRequest (moving_of e p) o c.ask → Result op c.ask
  by-call None opened own ready of request = absurd request
  by-call (Some calls.Access) opened own ready of request = task-open (entries_of e p) op (task_of e p) (Await.Answer c) of
  by-call (Some (calls.Lock u m)) opened own ready of request = subst (λ x. Result x c.ask) (sym of) tt
  by-call (Some (calls.PageOut u k delete)) opened own ready of request = subst (λ x. Result x c.ask) (sym of) (page-open u k delete ready.0.writes ready.0.may c.ask request (own (ap is_access opened)))
  by-call (Some (calls.AttrOut u n delete)) opened own ready of request = subst (λ x. Result x c.ask) (sym of) (length-open u n delete ready.0.writes ready.0.may c.ask request (own (ap is_access opened)))
  by-call (Some (calls.Unlock u)) opened own ready of request = subst (λ x. Result x c.ask) (sym of) (unlock-open u c.ask request)
  by-call (Some (calls.Remove u)) opened own ready of request = subst (λ x. Result x c.ask) (sym of) (remove-open u c.ask request carries)

  call-open : (is_access (open_call_of e p) ≡ false → IsOwnGrant e p c.ask) → IsCallOpen e p op c.ask → Result op c.ask
  call-open own is = by-call (open_call_of e p) refl own is.ready is.opened is.request

calling-open : (e : DeskState) (p : ℕ) (op : Op) (c : Asked) → Carries e p c.ask → (is_access (open_call_of e p) ≡ false → IsOwnGrant e p c.ask) → IsCalling e p op c.ask → IsReleaseOpen (entries_of e p) op (Await.Answer c)
calling-open e p (ops.New home kind room) c carries own is = tt
calling-open e p (ops.List home after) c carries own is = tt
calling-open e p (ops.Lock u m) c carries own is = tt
calling-open e p (ops.Unlock u) c carries own is = call-open e p (ops.Unlock u) c carries own is
calling-open e p (ops.Delete u) c carries own is = call-open e p (ops.Delete u) c carries own is
calling-open e p (ops.Load spot count) c carries own is = tt
calling-open e p (ops.Store spot bytes) c carries own is = tt
calling-open e p (ops.Length u) c carries own is = tt
calling-open e p (ops.Map u) c carries own is = tt
calling-open e p (ops.Unmap u) c carries own is = tt

-- an operation that waits to release is the one of its cause
module _ (d : DeskState) (p : ℕ) (op : Op) (task : Option Task) where
  settled-op : (call : LockCall) (x : Answer) (a : LockAnswer) (delete : Bool) (u : ObjectName) → lock_answer call x ≡ Some a → releasing_in (Cause.AnswerCame a) ≡ Some (delete, u) → IsCallOf op task (Some (open_call call)) → op ≡ release_op delete u
  settled-op (LockCall.PageOut v k del) (Answer.Stored stamp) a delete u says given of = of ∙ ap (λ (z : Bool × ObjectName). release_op z.0 z.1) (same_Some (del, v) (delete, u) (ap (λ b. releasing_in (Cause.AnswerCame b)) (same_Some _ a says) ∙ given))
  settled-op (LockCall.PageOut v k del) (Answer.Stale stamp) a delete u says given of = of ∙ ap (λ (z : Bool × ObjectName). release_op z.0 z.1) (same_Some (del, v) (delete, u) (ap (λ b. releasing_in (Cause.AnswerCame b)) (same_Some _ a says) ∙ given))
  settled-op (LockCall.AttrOut v n del) (Answer.Stored stamp) a delete u says given of = of ∙ ap (λ (z : Bool × ObjectName). release_op z.0 z.1) (same_Some (del, v) (delete, u) (ap (λ b. releasing_in (Cause.AnswerCame b)) (same_Some _ a says) ∙ given))
  settled-op (LockCall.AttrOut v n del) (Answer.Stale stamp) a delete u says given of = of ∙ ap (λ (z : Bool × ObjectName). release_op z.0 z.1) (same_Some (del, v) (delete, u) (ap (λ b. releasing_in (Cause.AnswerCame b)) (same_Some _ a says) ∙ given))
  settled-op (LockCall.Lock v m) (Answer.Granted grant stamp kind room n) a delete u says given of = absurd (let e = ap (λ b. releasing_in (Cause.AnswerCame b)) (same_Some _ a says) ∙ given in cc)
  settled-op (LockCall.Lock v m) (Answer.Conflict q held) a delete u says given of = absurd (let e = ap (λ b. releasing_in (Cause.AnswerCame b)) (same_Some _ a says) ∙ given in cc)
  settled-op (LockCall.Lock v m) Answer.NoObject a delete u says given of = absurd (let e = ap (λ b. releasing_in (Cause.AnswerCame b)) (same_Some _ a says) ∙ given in cc)
  settled-op (LockCall.Unlock v) Answer.Done a delete u says given of = absurd (let e = ap (λ b. releasing_in (Cause.AnswerCame b)) (same_Some _ a says) ∙ given in cc)
  settled-op (LockCall.Remove v) Answer.Done a delete u says given of = absurd (let e = ap (λ b. releasing_in (Cause.AnswerCame b)) (same_Some _ a says) ∙ given in cc)
  settled-op call x a delete u says given of = absurd (cc)

releasing-op : (d : DeskState) (p : ℕ) (op : Op) (c : Cause) (may : MayCome d p c) → IsOf d p c op → (delete : Bool) (u : ObjectName) → releasing_in c ≡ Some (delete, u) → op ≡ release_op delete u
releasing-op d p op (Cause.Releases del v) may of delete u given = of ∙ ap (λ (z : Bool × ObjectName). release_op z.0 z.1) (same_Some (del, v) (delete, u) given)
releasing-op d p op (Cause.AnswerCame a) may of delete u given = settled-op d p op (task_of d p) may.call may.answer a delete u may.says given (subst (IsCallOf op (task_of d p)) may.opened of)
releasing-op d p op (Cause.Accesses access) may of delete u given = absurd (cc)
releasing-op d p op (Cause.Locks v m) may of delete u given = absurd (cc)
releasing-op d p op (Cause.PageCame a) may of delete u given = absurd (cc)
releasing-op d p op (Cause.AccessFailed t) may of delete u given = absurd (cc)
releasing-op d p op (Cause.CallFailed call) may of delete u given = absurd (cc)

-- a load or a store waits for a page
access-waits : (entries : List LockEntry) (access : DeskOp) (op : Op) (a : Await) → op ≡ op_of access → IsReleaseOpen entries op a
access-waits entries access op a is = subst (λ x. IsReleaseOpen entries x a) (sym is) (by access)
  where
    by : (access : DeskOp) → IsReleaseOpen entries (op_of access) a
    by (DeskOp.Loads spot count) = tt
    by (DeskOp.Stores spot bytes) = tt
    by (DeskOp.Measures u) = tt
    by (DeskOp.Maps u) = tt
    by (DeskOp.Unmaps u) = tt

task-waits : (d : DeskState) (p : ℕ) (op : Op) (c : Cause) (entries : List LockEntry) (a : Await) (task : Task) → MayCome d p c → IsOf d p c op → IsTaskIn d p c task → IsReleaseOpen entries op a
task-waits d p op (Cause.Accesses access) entries a task may of is = access-waits entries access op a of
task-waits d p op (Cause.PageCame answer) entries a task may of is = task-open entries op (task_of d p) a (subst (IsCallOf op (task_of d p)) may.accessing of)
task-waits d p op (Cause.Locks u m) entries a task may of is = absurd is
task-waits d p op (Cause.Releases delete u) entries a task may of is = absurd is
task-waits d p op (Cause.AnswerCame answer) entries a task may of is = absurd is
task-waits d p op (Cause.AccessFailed t) entries a task may of is = absurd is
task-waits d p op (Cause.CallFailed call) entries a task may of is = absurd is

module _ (d e : DeskState) (p : ℕ) (op : Op) where
  abbrev WaitsOpen : Turn → Type 0
  WaitsOpen (Turn.Ends reply) = Unit {0}
  WaitsOpen (Turn.Asks home ask) = Unit {0}
  WaitsOpen (Turn.Waits u k) = IsReleaseOpen (entries_of e p) op (Await.Page u k)

  release-waits : (delete : Bool) (u : ObjectName) (k : ℕ) → keeps_writing (entry_at e.entries p u) ≡ true → (delete ≡ true → may_delete (state_of e p u) ≡ true) → IsReleaseOpen (entries_of e p) (release_op delete u) (Await.Page u k)
  release-waits true u k writes may = ((refl, writes), may refl)
  release-waits false u k writes may = (refl, writes)

  said-waits : (c : Cause) (turn : Turn) → MayCome d p c → IsOf d p c op → Says d p e c turn → WaitsOpen turn
  said-waits c turn may of (Says.waits cause task given absent fetched) = task-waits d p op c (entries_of e p) _ task may of given
  said-waits c turn may of (Says.waits_to_release cause delete u k is found) = subst (λ x. IsReleaseOpen (entries_of e p) x (Await.Page u k)) (sym (releasing-op d p op c may of delete u is.given)) (release-waits delete u k is.writes is.may)
  said-waits c turn may of (Says.asks_page cause task given fetches) = tt
  said-waits c turn may of (Says.sends_room cause task r given room) = tt
  said-waits c turn may of (Says.sends_page cause delete u k r given opened sends) = tt
  said-waits c turn may of (Says.sends_length cause delete u n given opened changed) = tt
  said-waits c turn may of (Says.asks_lock u m opened) = tt
  said-waits c turn may of (Says.gives_up cause delete u given opened may_it settled) = tt
  said-waits c turn may of says = tt

-- a new object or a list waits for nothing, and releases nothing
begin-open : (opening : Start) (entries : List LockEntry) (op : Op) (turn : Turn) (a : Await) → IsHomeBegin opening op turn → IsReleaseOpen entries op a
begin-open opening entries (ops.New home kind room) turn a is = tt
begin-open opening entries (ops.List home after) turn a is = tt
begin-open opening entries (ops.Lock u m) turn a is = tt
begin-open opening entries (ops.Unlock u) turn a is = absurd is
begin-open opening entries (ops.Delete u) turn a is = absurd is
begin-open opening entries (ops.Load spot count) turn a is = tt
begin-open opening entries (ops.Store spot bytes) turn a is = tt
begin-open opening entries (ops.Length u) turn a is = tt
begin-open opening entries (ops.Map u) turn a is = tt
begin-open opening entries (ops.Unmap u) turn a is = tt

home-open : (opening : Start) (incoming : Incoming) (p : ℕ) (doing : Option OpenOp) (stage : Stage) (entries : List LockEntry) (op : Op) (a : Await) (u : ObjectName) (k : ℕ) → IsHomeTurn opening incoming p doing stage op (Turn.Waits u k) → IsReleaseOpen entries op a
home-open opening incoming p doing Stage.Starts entries op a u k is = begin-open opening entries op (Turn.Waits u k) a is
home-open opening incoming p doing Stage.Resumes entries op a u k is = absurd is
home-open opening incoming p doing (Stage.Settles number) entries op a u k is = absurd is

-- the same is awaited still
same-release : (entries : List LockEntry) (o r : Option OpenOp) → IsSameDoing o r → IsOpenRelease entries o → IsOpenRelease entries r
same-release entries None None same is = tt
same-release entries None (Some r) same is = absurd same
same-release entries (Some o) None same is = absurd same
same-release entries (Some o) (Some r) same is = by o.awaits r.awaits same.1 (subst (λ (b : BegunOp). IsReleaseOpen entries b.op o.awaits) (sym same.0) is)
  where
    P : Await → Type 0
    P a = IsReleaseOpen entries r.began.op a

    calls-same : (op : Op) (c k : Asked) → k.ask ≡ c.ask → IsReleaseOpen entries op (Await.Answer c) → IsReleaseOpen entries op (Await.Answer k)
    calls-same (ops.Unlock u) c k e is = subst (SendsHome entries u (Ask.Unlock u)) (sym e) is
    calls-same (ops.Delete u) c k e is = (subst (SendsHome entries u (Ask.Remove u)) (sym e) is.0, is.1)
    calls-same (ops.New home kind room) c k e is = tt
    calls-same (ops.List home after) c k e is = tt
    calls-same (ops.Lock u m) c k e is = tt
    calls-same (ops.Load spot count) c k e is = tt
    calls-same (ops.Store spot bytes) c k e is = tt
    calls-same (ops.Length u) c k e is = tt
    calls-same (ops.Map u) c k e is = tt
    calls-same (ops.Unmap u) c k e is = tt

    by : (a b : Await) → IsSameAwait a b → P a → P b
    by (Await.Answer c) (Await.Answer k) same is = calls-same r.began.op c k same.1 is
    by (Await.Answer c) (Await.Page u k) same is = absurd same
    by (Await.Page u k) (Await.Answer c) same is = absurd same
    by (Await.Page u k) (Await.Page v j) same is = subst (λ i. P (Await.Page v i)) (sym same.1) (subst (λ w. P (Await.Page w k)) (sym same.0) is)

module _ (g : Given) (n : NodeState) (incoming : Incoming) (s : Stepped) (now : IsNodeOf g s.node) (carried : AreCarried s.node) (open_ones : AreOpenReleases n) where
  own-release : (p : ℕ) (proc : IsProc p) (o : BegunOp) (stage : Stage) (m : Moved) → OpMove g.opening incoming (proc_of n p).doing stage n.desk p o.op m → s.node.desk ≡ m.desk → (proc_of s.node p).doing ≡ doing_after o (proc_of n p) m.turn
      → IsOpenRelease (entries_of s.node.desk p) (doing_after o (proc_of n p) m.turn)
  own-release p proc o stage m made at doing =
      by m.turn refl (subst (Agrees s.node.desk p (proc_of s.node p).last) doing (now.agrees p proc)) (subst (CarriesOpen s.node.desk p) doing (carried p proc))
    where
      by : (turn : Turn) → m.turn ≡ turn → Agrees s.node.desk p (proc_of s.node p).last (doing_after o (proc_of n p) turn) → CarriesOpen s.node.desk p (doing_after o (proc_of n p) turn) → IsOpenRelease (entries_of s.node.desk p) (doing_after o (proc_of n p) turn)
      by (Turn.Ends reply) same agrees carries = tt
      by (Turn.Waits u k) same agrees carries = elim made [
        | apart desk turn ↦ home-open g.opening incoming p (proc_of n p).doing stage (entries_of s.node.desk p) o.op (Await.Page u k) u k (subst (IsHomeTurn g.opening incoming p (proc_of n p).doing stage o.op) same turn)
        | moves c may of at_stage taken by_moves ↦ subst (λ d. IsReleaseOpen (entries_of d p) o.op (Await.Page u k)) (sym at) (subst (WaitsOpen n.desk m.desk p o.op) same (said-waits n.desk m.desk p o.op c m.turn may of by_moves.says))
      ]
      by (Turn.Asks home ask) same agrees carries =
          calling-open s.node.desk p o.op (next_call (proc_of n p) home ask) carries (elim made [
            | apart desk turn ↦ (λ none. home-grant s.node.desk p o.op home ask (home-asks g.opening incoming p (proc_of n p).doing stage o.op home ask (subst (IsHomeTurn g.opening incoming p (proc_of n p).doing stage o.op) same turn)))
            | moves c may of at_stage taken by_moves ↦ subst (λ d. is_access (open_call_of d p) ≡ false → IsOwnGrant d p ask) (sym at) (λ none. subst (IsTurnGrant m.desk p) same (said-grant n.desk m.desk p c m.turn by_moves.says none))
          ]) agrees.1.0

  other-release : (p : ℕ) (proc : IsProc p) (o : BegunOp) (stage : Stage) (m : Moved) → OpMove g.opening incoming (proc_of n p).doing stage n.desk p o.op m → (q : ℕ) → IsProc q → q ≢ p → IsOpenRelease (entries_of m.desk q) (proc_of n q).doing
  other-release p proc o stage m (apart desk turn) q other differs = subst (λ d. IsOpenRelease (entries_of d q) (proc_of n q).doing) (sym desk) (open_ones q other)
  other-release p proc o stage m (moves c may of at_stage taken made) q other differs =
      subst (λ es. IsOpenRelease es (proc_of n q).doing) (sym (moves-beside c m.turn p q proc other differs n.desk m.desk m.dropped made.moves).entries) (open_ones q other)

  node-release : NodeMove g n incoming s → AreOpenReleases s.node
  node-release (still desk same quiet uncalled) q other = subst (λ d. IsOpenRelease (entries_of d q) (proc_of s.node q).doing) (sym desk) (same-release (entries_of n.desk q) (proc_of n q).doing (proc_of s.node q).doing (same q other) (open_ones q other))
  node-release (moved p o stage m proc at made desk doing others note call side) q other = elim (cases_eq q p) [
    | inl there ↦ subst (λ r. IsOpenRelease (entries_of s.node.desk r) (proc_of s.node r).doing) (sym there) (subst (IsOpenRelease (entries_of s.node.desk p)) (sym doing) (own-release p proc o stage m made desk doing))
    | inr beside ↦ subst (λ (x : ProcState). IsOpenRelease (entries_of s.node.desk q) x.doing) (sym (others q other beside)) (subst (λ d. IsOpenRelease (entries_of d q) (proc_of n q).doing) (sym desk) (other-release p proc o stage m made q other beside))
  ]

-- each step keeps it
pub step-release : (g : Given) (n : NodeState) (what : What) (incoming : Incoming) (dropped : List (ObjectName × ℕ)) (s : Stepped) → IsGiven g → IsNodeOf g n → IsIncoming incoming → AreCarried n → AreOpenReleases n → step_of g n what incoming dropped ≡ Some s → AreOpenReleases s.node
step-release g n what incoming dropped s given is frame carried open_ones e =
    node-release g (ticked n incoming) incoming s (step_of-keeps g n what incoming dropped s given is frame e).node (step-carries g n what incoming dropped s given is frame carried e) open_ones (step-desk g n what incoming dropped s given is frame e)

first-release : (g : Given) → AreOpenReleases (first_node g)
first-release g = by_proc (λ p. IsOpenRelease (entries_of (first_node g).desk p) (proc_of (first_node g) p).doing) tt tt tt tt

-- so it holds wherever a node's events led
pub reached-release : (g : Given) → IsGiven g → (n : NodeState) → Reached g n → AreOpenReleases n
reached-release g is n starts = first-release g
reached-release g is n (steps {n = m} s what incoming dropped before frame e) = step-release g m what incoming dropped s is (Reached-keeps g is m before) frame (reached-carries g is m before) (reached-release g is m before) e

-- and in every run
abbrev AreAllReleases : Setup → World → Type 0
AreAllReleases s w = (n : ℕ) → is_node s.opening n ≡ true → AreOpenReleases (w.nodes n)

all-later : (s : Setup) (setup : IsSetup s) (old : World) (c : Choice) (new : World) → IsKeptNext s old c new → ((n : ℕ) → is_node s.opening n ≡ true → AreCarried (old.nodes n)) → AreAllReleases s old → AreAllReleases s new
all-later s setup old c new next carried open_ones = subst (AreAllReleases s) (sym next.is.world)
    (λ a node. elim (cases_eq a c.node) [
      | inl here ↦ subst AreOpenReleases (sym (put-same old.nodes c.node a next.is.step.node here)) step
      | inr away ↦ subst AreOpenReleases (sym (put-other old.nodes c.node a next.is.step.node away)) (open_ones a node)
    ])
  where
    step : AreOpenReleases next.is.step.node
    step =
        step-release (given s c.node) (old.nodes c.node) c.what next.is.incoming c.dropped next.is.step (setup-gives s setup c.node next.is.node) (next.kept.nodes c.node next.is.node)
        (incoming-is IsIncoming tt (λ number tick. tt) (λ tick. tt) IsFrame (λ m is. is) old c.node (λ from. next.kept.frames from c.node) c.what next.is.incoming next.is.comes)
        (carried c.node next.is.node) (open_ones c.node next.is.node) next.is.steps

pub runs-release : (s : Setup) → IsSetup s → (cs : List Choice) (w : World) → world_after s cs ≡ Some w → IsTimely w → (n : ℕ) → is_node s.opening n ≡ true → AreOpenReleases (w.nodes n)
runs-release s setup = every-kept-run s setup (setup-procs s setup) (AreAllReleases s) (λ n node. first-release (given s n)) (λ cs old c new e timely next open_ones. all-later s setup old c new next (runs-carry s setup cs old e timely) open_ones)
