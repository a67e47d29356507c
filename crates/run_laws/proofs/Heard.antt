-- What a desk is told of stamps and grants is what a home decided on the call that is open.
use Rattle.std.proofs.Common.{◌≡◌, ℕ, Bool, true, false, List, [], ◌∷◌, Option, Some, None, IfSome, inl, inr, refl, sym, ap, subst, ◌∙◌}
use Rattle.std.proofs.lemmas.Option.{same_Some}
use Rattle.uid_names.specs.Names.{ProcName, ObjectName}
use Rattle.uid_names.specs.declared.ids.Place.{Place}
use Rattle.uid_names.specs.declared.mode.Mode.{Mode}
use Rattle.dom_history.specs.Histories.{SomeOf}
use Rattle.page_cache.specs.Caches.{Resident, page_at}
use Rattle.ring_messages.specs.Bodies.{Ask, Answer}
use Rattle.fault_handler.specs.declared.open_call.OpenCall.TheVariants as calls
use Rattle.fault_handler.specs.declared.tasks.Task.{Task}
use Rattle.fault_handler.specs.declared.transits.Transit.{Transit}
use Rattle.fault_handler.specs.Transits.{coming, going}
use Rattle.fault_handler.specs.Desks.{DeskState, task_of, moving_of}
use Rattle.fault_handler.specs.PageReplies.{PageAnswer, answer_inward, answer_outward, answer_by, answer_with}
use Rattle.fault_handler.specs.LockCalls.{LockCall, LockAnswer, open_call, lock_answer}
use Rattle.fault_handler.specs.Invariant.{IsProc}
use Rattle.fault_handler.specs.Next.{IsCallOf, IsRequestOf}
use Rattle.fault_handler.proofs.Answering.{IsSaid}
use Rattle.lock_validate.specs.Causes.{Cause, MayCome, IsOf}
use Rattle.lock_validate.specs.Told.{told_stamp}
use Rattle.lock_validate.proofs.PageSaid.{page-said}
use Rattle.node_runs.specs.Setups.{Setup, given}
use Rattle.node_runs.specs.NodeStates.{Asked, Await, BegunOp, OpenOp, NodeState, proc_of}
use Rattle.node_runs.specs.Outcomes.{Stage}
use Rattle.node_runs.specs.Doings.{ticked}
use Rattle.node_runs.specs.Dones.{asking}
use Rattle.node_runs.specs.Agreements.{IsCalling, Agrees}
use Rattle.node_runs.specs.NodesKeep.{IsNodeOf}
use Rattle.node_runs.specs.Notes.{Note}
use Rattle.node_runs.specs.Runs.{World, Noted, Choice, numbered}
use Rattle.node_runs.specs.CallsKeep.{IsCallAt, IsOpenAt, EachOf}
use Rattle.node_runs.specs.DecidedCalls.{IsDecided}
use Rattle.run_laws.specs.DecidedReplies.{proc_at, IsAnswerOf}
use Rattle.run_laws.specs.LastCalls.{HasNumber, IsOpenNumber}
use Rattle.run_laws.proofs.HearingRuns.{IsKeptNext, same-ask, event}
use Rattle.run_laws.specs.DeskSteps.{Takes, IsTaken, IsAt}
use Rattle.run_laws.proofs.EndedOps.{op-request}
use Rattle.run_laws.proofs.ToldAnswers.{taken-decided}
use Rattle.run_laws.specs.Stamps.{IsStampOf, TellsItem}
use Rattle.run_laws.proofs.Given.{NoteHas, IsGrantOf, TellsGrant}

-- what holds of each decision holds of the answer that is taken, with what the open call asks
module _ (s : Setup) (old : World) (c : Choice) (new : World) (next : IsKeptNext s old c new) (T : Ask → Answer → Type 0) (each : EachOf (λ (j : Noted). NoteHas T j.note) old.trace) (p : ℕ) (proc : IsProc p) where
  open event s old c new next use {n}

  abbrev mine : List Asked
  mine = old.calls c.node p

  module _ (number : ℕ) (x : Answer) (home : ℕ) (ask : Ask) (made : IsCallAt mine number home ask) where
    at-note : (place : Place) (note : Note) → IsAnswerOf (proc_at c.node p) number x note → IsDecided old place note → NoteHas T note → T ask x
    at-note place Note.Nothing is decided has = absurd is
    at-note place (Note.Began q op) is decided has = absurd is
    at-note place (Note.Did q phase op reply) is decided has = absurd is
    at-note place (Note.Ended t) is decided has = absurd is
    at-note place (Note.Decided q i asked answer) is decided has =
        let call : IsCallAt mine number place.node asked = subst (λ (r : ProcName). IsCallAt (old.calls r.node r.number) number place.node asked) is.0 (subst (λ j. IsCallAt (old.calls q.node q.number) j place.node asked) is.1 decided.1) in
        let same : asked ≡ ask = same-ask (numbered number mine) place.node home asked ask call made in
        subst (λ y. T ask y) is.2 (subst (λ a. T a answer) same has)

    some-note : (notes : List Noted) → SomeOf (λ (j : Noted). IsAnswerOf (proc_at c.node p) number x j.note) notes → EachOf (λ (j : Noted). IsDecided old j.place j.note) notes → EachOf (λ (j : Noted). NoteHas T j.note) notes → T ask x
    some-note [] some decided has = absurd some
    some-note (j ∷ older) (inl is) decided has = at-note j.place j.note is decided.0 has.0
    some-note (j ∷ older) (inr some) decided has = some-note older some decided.1 has.1

  node_old : IsNodeOf (given s c.node) (old.nodes c.node)
  node_old = next.kept.nodes c.node next.is.node

  module _ (o : BegunOp) (stage : Stage) (x : Answer) (taken : Takes next.is.incoming p (proc_of n p).doing x) where
    abbrev HasAsk : Type 0
    HasAsk = (ask : Ask) × IsCalling n.desk p o.op ask × T ask x

    at-began : (r : OpenOp) (st : Stage) → IsAt (Some r) o st → r.began ≡ o
    at-began r Stage.Starts at = absurd at
    at-began r Stage.Resumes at = sym at
    at-began r (Stage.Settles i) at = sym at.0

    by-await : (r : OpenOp) → (proc_of n p).doing ≡ Some r → r.began ≡ o → (w : Await) → r.awaits ≡ w → HasNumber taken.frame.number w → HasAsk
    by-await r is began (Await.Page u k) awaits number = absurd number
    by-await r is began (Await.Answer a) awaits number =
        let here : (proc_of n p).doing ≡ asking r.began a = is ∙ ap (λ w. Some (let y : OpenOp = record { began = r.began; awaits = w } in y)) awaits in
        let agrees = subst (Agrees n.desk p (proc_of n p).last) here (node_old.agrees p proc) in
        let made = subst (IsOpenAt mine) here (next.calls.opened c.node p proc) in
        let some = subst (λ i. SomeOf (λ (j : Noted). IsAnswerOf (proc_at c.node p) i x j.note) old.trace) (sym number) (taken-decided s old c new next p (proc_of n p).doing x taken) in
        (a.ask, subst (λ (b : BegunOp). IsCalling n.desk p b.op a.ask) began agrees.1.0, some-note a.waiting.number x a.home a.ask made old.trace some next.decisions.each each)

    by-doing : (d : Option OpenOp) → (proc_of n p).doing ≡ d → IsOpenNumber taken.frame.number d → IsAt d o stage → HasAsk
    by-doing None is number at = absurd number
    by-doing (Some r) is number at = by-await r is (at-began r stage at) r.awaits refl number

    pub answer-has : IsAt (proc_of n p).doing o stage → HasAsk
    answer-has at = by-doing (proc_of n p).doing refl taken.number at

-- the answer that says this to a load or store
abbrev IsSaidBy : PageAnswer → Answer → Type 0
IsSaidBy (PageAnswer.Came task stamp bytes) x = x ≡ Answer.Page stamp bytes
IsSaidBy (PageAnswer.Taken task r stamp) x = x ≡ Answer.Stored stamp
IsSaidBy (PageAnswer.NotTaken task r stamp) x = x ≡ Answer.Stale stamp

answer-said : (pages : List Resident) (o : Option Task) (t : Option Transit) (x : Answer) (a : PageAnswer) → answer_with pages o t x ≡ Some a → IsSaidBy a x
answer-said pages None t x a e = absurd (cc)
answer-said pages (Some task) None x a e = absurd (cc)
answer-said pages (Some task) (Some t) x a e = by t.inward e
  where
    outward : (r : Option Resident) (x : Answer) → answer_outward task r x ≡ Some a → IsSaidBy a x
    outward None x e = absurd (cc)
    outward (Some r) (Answer.Stored stamp) e = subst (λ b. IsSaidBy b (Answer.Stored stamp)) (same_Some (PageAnswer.Taken task r stamp) a e) refl
    outward (Some r) (Answer.Stale stamp) e = subst (λ b. IsSaidBy b (Answer.Stale stamp)) (same_Some (PageAnswer.NotTaken task r stamp) a e) refl
    outward (Some r) x e = absurd (cc)

    inward : (x : Answer) → answer_inward task x ≡ Some a → IsSaidBy a x
    inward (Answer.Page stamp bytes) e = subst (λ b. IsSaidBy b (Answer.Page stamp bytes)) (same_Some (PageAnswer.Came task stamp bytes) a e) refl
    inward x e = absurd (cc)

    by : (b : Bool) → answer_by pages task t b x ≡ Some a → IsSaidBy a x
    by true e = inward x e
    by false e = outward (page_at pages t.uid t.page) x e

-- the page that is moved
abbrev uid_in : Option Transit → ObjectName → ObjectName
uid_in None u = u
uid_in (Some t) u = t.uid

abbrev inward_in : Option Transit → Bool
inward_in None = false
inward_in (Some t) = t.inward

module _ (w : World) where
  abbrev pub AreStampsTold : Option (ObjectName × ℕ) → Type 0
  AreStampsTold o = IfSome o (λ (z : ObjectName × ℕ). IsStampOf w z.0 z.1)

  abbrev pub IsGrantTold : Cause → Type 0
  IsGrantTold (Cause.AnswerCame (LockAnswer.Granted u m grant stamp room n)) = IsGrantOf w u grant stamp
  IsGrantTold c = Unit {0}

  abbrev pub IsToldRight : Cause → Type 0
  IsToldRight c = AreStampsTold (told_stamp c) × IsGrantTold c

  abbrev pub TellsBoth : Ask → Answer → Type 0
  TellsBoth ask answer = TellsItem w ask answer × TellsGrant w ask answer

  module _ (moving : Option Transit) (ask : Ask) where
    came-told : (u : ObjectName) (k : ℕ) (stamp : ℕ) (bytes : List ℕ) → moving ≡ coming u k → IsRequestOf moving calls.Access ask → TellsItem w ask (Answer.Page stamp bytes) → IsStampOf w u stamp
    came-told u k stamp bytes comes request tells = by ask request tells
      where
        by : (a : Ask) → IsRequestOf moving calls.Access a → TellsItem w a (Answer.Page stamp bytes) → IsStampOf w u stamp
        by (Ask.PageIn v j) request tells = subst (λ z. IsStampOf w z stamp) (ap (λ o. uid_in o u) (sym request ∙ comes)) tells.stamp
        by (Ask.PageOut v j grant base sent) request tells = absurd (let e : false ≡ true = ap inward_in (sym request ∙ comes) in cc)
        by (Ask.AttrOut v n grant base) request tells = absurd request
        by (Ask.Lock v m) request tells = absurd request
        by (Ask.Unlock v) request tells = absurd request
        by (Ask.Remove v) request tells = absurd request
        by (Ask.Make kind room) request tells = absurd request
        by (Ask.ListLocks after) request tells = absurd request

    went-told : (u : ObjectName) (k : ℕ) (stamp : ℕ) (x : Answer) → ((v : ObjectName) (j grant base : ℕ) (bytes : List ℕ) → TellsItem w (Ask.PageOut v j grant base bytes) x → IsStampOf w v stamp) → moving ≡ going u k → IsRequestOf moving calls.Access ask → TellsItem w ask x → IsStampOf w u stamp
    went-told u k stamp x says goes request tells = by ask request tells
      where
        by : (a : Ask) → IsRequestOf moving calls.Access a → TellsItem w a x → IsStampOf w u stamp
        by (Ask.PageIn v j) request tells = absurd (let e : true ≡ false = ap inward_in (sym request ∙ goes) in cc)
        by (Ask.PageOut v j grant base sent) request tells = subst (λ z. IsStampOf w z stamp) (ap (λ o. uid_in o u) (sym request ∙ goes)) (says v j grant base sent tells)
        by (Ask.AttrOut v n grant base) request tells = absurd request
        by (Ask.Lock v m) request tells = absurd request
        by (Ask.Unlock v) request tells = absurd request
        by (Ask.Remove v) request tells = absurd request
        by (Ask.Make kind room) request tells = absurd request
        by (Ask.ListLocks after) request tells = absurd request

  page-told : (d : DeskState) (p : ℕ) (a : PageAnswer) (x : Answer) (ask : Ask) → IsSaidBy a x → IsSaid d p a → IsRequestOf (moving_of d p) calls.Access ask → TellsItem w ask x → AreStampsTold (told_stamp (Cause.PageCame a))
  page-told d p (PageAnswer.Came task stamp bytes) x ask by said request tells = came-told (moving_of d p) ask task.uid _ stamp bytes said.comes request (subst (TellsItem w ask) by tells)
  page-told d p (PageAnswer.Taken task r stamp) x ask by said request tells = went-told (moving_of d p) ask r.uid r.page stamp (Answer.Stored stamp) (λ v j grant base bytes is. is) said.goes request (subst (TellsItem w ask) by tells)
  page-told d p (PageAnswer.NotTaken task r stamp) x ask by said request tells = went-told (moving_of d p) ask r.uid r.page stamp (Answer.Stale stamp) (λ v j grant base bytes is. is) said.goes request (subst (TellsItem w ask) by tells)

  module _ (moving : Option Transit) where
    granted-told : (v : ObjectName) (m k : Mode) (grant stamp room n : ℕ) (kind : _) (ask : Ask) → IsRequestOf moving (calls.Lock v m) ask → TellsBoth ask (Answer.Granted grant stamp kind room n) → IsToldRight (Cause.AnswerCame (LockAnswer.Granted v k grant stamp room n))
    granted-told v m k grant stamp room n kind (Ask.Lock u j) request tells = subst (λ z. IsStampOf w z stamp × IsGrantOf w z grant stamp) request.0 (tells.0.stamp, tells.1)
    granted-told v m k grant stamp room n kind (Ask.PageIn u j) request tells = absurd request
    granted-told v m k grant stamp room n kind (Ask.PageOut u j gr base bytes) request tells = absurd request
    granted-told v m k grant stamp room n kind (Ask.AttrOut u len gr base) request tells = absurd request
    granted-told v m k grant stamp room n kind (Ask.Unlock u) request tells = absurd request
    granted-told v m k grant stamp room n kind (Ask.Remove u) request tells = absurd request
    granted-told v m k grant stamp room n kind (Ask.Make kd rm) request tells = absurd request
    granted-told v m k grant stamp room n kind (Ask.ListLocks after) request tells = absurd request

    sent-told : (v : ObjectName) (k : ℕ) (delete : Bool) (stamp : ℕ) (x : Answer) (ask : Ask) → ((u : ObjectName) (j grant base : ℕ) (bytes : List ℕ) → TellsItem w (Ask.PageOut u j grant base bytes) x → IsStampOf w u stamp) → IsRequestOf moving (calls.PageOut v k delete) ask → TellsItem w ask x → IsStampOf w v stamp
    sent-told v k delete stamp x (Ask.PageOut u j grant base bytes) says request tells = subst (λ z. IsStampOf w z stamp) request.0 (says u j grant base bytes tells)
    sent-told v k delete stamp x (Ask.PageIn u j) says request tells = absurd request
    sent-told v k delete stamp x (Ask.AttrOut u n gr base) says request tells = absurd request
    sent-told v k delete stamp x (Ask.Lock u m) says request tells = absurd request
    sent-told v k delete stamp x (Ask.Unlock u) says request tells = absurd request
    sent-told v k delete stamp x (Ask.Remove u) says request tells = absurd request
    sent-told v k delete stamp x (Ask.Make kd rm) says request tells = absurd request
    sent-told v k delete stamp x (Ask.ListLocks after) says request tells = absurd request

    length-told : (v : ObjectName) (n : ℕ) (delete : Bool) (stamp : ℕ) (x : Answer) (ask : Ask) → ((u : ObjectName) (l grant base : ℕ) → TellsItem w (Ask.AttrOut u l grant base) x → IsStampOf w u stamp) → IsRequestOf moving (calls.AttrOut v n delete) ask → TellsItem w ask x → IsStampOf w v stamp
    length-told v n delete stamp x (Ask.AttrOut u l grant base) says request tells = subst (λ z. IsStampOf w z stamp) request.0 (says u l grant base tells)
    length-told v n delete stamp x (Ask.PageIn u j) says request tells = absurd request
    length-told v n delete stamp x (Ask.PageOut u j gr base bytes) says request tells = absurd request
    length-told v n delete stamp x (Ask.Lock u m) says request tells = absurd request
    length-told v n delete stamp x (Ask.Unlock u) says request tells = absurd request
    length-told v n delete stamp x (Ask.Remove u) says request tells = absurd request
    length-told v n delete stamp x (Ask.Make kd rm) says request tells = absurd request
    length-told v n delete stamp x (Ask.ListLocks after) says request tells = absurd request

    lock-told : (call : LockCall) (x : Answer) (a : LockAnswer) → lock_answer call x ≡ Some a → (ask : Ask) → IsRequestOf moving (open_call call) ask → TellsBoth ask x → IsToldRight (Cause.AnswerCame a)
    lock-told (LockCall.Lock v m) (Answer.Granted grant stamp kind room n) a says ask request tells = subst (λ b. IsToldRight (Cause.AnswerCame b)) (same_Some _ a says) (granted-told v m m grant stamp room n kind ask request tells)
    lock-told (LockCall.Lock v m) (Answer.Conflict q held) a says ask request tells = subst (λ b. IsToldRight (Cause.AnswerCame b)) (same_Some _ a says) (tt, tt)
    lock-told (LockCall.Lock v m) Answer.NoObject a says ask request tells = subst (λ b. IsToldRight (Cause.AnswerCame b)) (same_Some _ a says) (tt, tt)
    lock-told (LockCall.PageOut v k delete) (Answer.Stored stamp) a says ask request tells = subst (λ b. IsToldRight (Cause.AnswerCame b)) (same_Some _ a says) (sent-told v k delete stamp (Answer.Stored stamp) ask (λ u j grant base bytes is. is) request tells.0, tt)
    lock-told (LockCall.PageOut v k delete) (Answer.Stale stamp) a says ask request tells = subst (λ b. IsToldRight (Cause.AnswerCame b)) (same_Some _ a says) (sent-told v k delete stamp (Answer.Stale stamp) ask (λ u j grant base bytes is. is) request tells.0, tt)
    lock-told (LockCall.AttrOut v n delete) (Answer.Stored stamp) a says ask request tells = subst (λ b. IsToldRight (Cause.AnswerCame b)) (same_Some _ a says) (length-told v n delete stamp (Answer.Stored stamp) ask (λ u l grant base is. is) request tells.0, tt)
    lock-told (LockCall.AttrOut v n delete) (Answer.Stale stamp) a says ask request tells = subst (λ b. IsToldRight (Cause.AnswerCame b)) (same_Some _ a says) (length-told v n delete stamp (Answer.Stale stamp) ask (λ u l grant base is. is) request tells.0, tt)
    lock-told (LockCall.Unlock v) Answer.Done a says ask request tells = subst (λ b. IsToldRight (Cause.AnswerCame b)) (same_Some _ a says) (tt, tt)
    lock-told (LockCall.Remove v) Answer.Done a says ask request tells = subst (λ b. IsToldRight (Cause.AnswerCame b)) (same_Some _ a says) (tt, tt)
    lock-told call x a says ask request tells = absurd (cc)

-- what a desk is told where it moves
module _ (s : Setup) (old : World) (c : Choice) (new : World) (next : IsKeptNext s old c new) (each : EachOf (λ (j : Noted). NoteHas (TellsBoth old) j.note) old.trace) (p : ℕ) (proc : IsProc p) (o : BegunOp) (stage : Stage) where
  abbrev m : NodeState
  m = ticked (old.nodes c.node) next.is.incoming

  pub cause-told : IsAt (proc_of m p).doing o stage → (cause : Cause) (may : MayCome m.desk p cause) → IsOf m.desk p cause o.op → IsTaken next.is.incoming m.desk p (proc_of m p).doing cause may → IsToldRight old cause
  cause-told at (Cause.PageCame a) may of taken =
      let has = answer-has s old c new next (TellsBoth old) each p proc o stage may.answer taken at in
      let request = op-request m.desk p o.op has.0 calls.Access may.accessing (subst (IsCallOf o.op (task_of m.desk p)) may.accessing of) has.1 in
      (page-told old m.desk p a may.answer has.0 (answer-said m.desk.cache.pages (task_of m.desk p) (moving_of m.desk p) may.answer a may.says) (page-said m.desk p (next.kept.nodes c.node next.is.node).desk proc a may) request has.2.0, tt)
  cause-told at (Cause.AnswerCame a) may of taken =
      let has = answer-has s old c new next (TellsBoth old) each p proc o stage may.answer taken at in
      let request = op-request m.desk p o.op has.0 (open_call may.call) may.opened (subst (IsCallOf o.op (task_of m.desk p)) may.opened of) has.1 in
      lock-told old (moving_of m.desk p) may.call may.answer a may.says has.0 request has.2
  cause-told at (Cause.Accesses access) may of taken = (tt, tt)
  cause-told at (Cause.Locks u k) may of taken = (tt, tt)
  cause-told at (Cause.Releases delete u) may of taken = (tt, tt)
  cause-told at (Cause.AccessFailed t) may of taken = (tt, tt)
  cause-told at (Cause.CallFailed call) may of taken = (tt, tt)
