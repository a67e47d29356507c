-- What each kind of event does to the desk of its node.
use Rattle.std.proofs.Common.{◌≡◌, ℕ, Bool, true, false, List, ◌∷◌, length, Option, Some, None, inl, inr, refl, sym, ap, subst, ◌∙◌}
use Rattle.std.specs.Prelude.{◌&&◌, nat_le}
use Rattle.std.proofs.lemmas.Bool.{cases_eq}
use Rattle.std.proofs.lemmas.Option.{same_Some}
use Rattle.uid_names.specs.Names.{ObjectName, ProcName}
use Rattle.uid_names.specs.Openings.{Start}
use Rattle.uid_names.specs.Steps.{◌>>=◌}
use Rattle.uid_names.specs.declared.mode.ObjKind.{ObjKind}
use Rattle.uid_names.proofs.Passed.{equal}
use Rattle.uid_names.proofs.Somes.{bind-some, map-some}
use Rattle.dom_history.specs.declared.op.Op.{Op}
use Rattle.dom_history.specs.declared.op.Op.TheVariants as ops
use Rattle.dom_history.specs.declared.op.Reply.{Reply}
use Rattle.dom_history.specs.declared.op.Reply.TheVariants.{Made, NoSpace, Locks}
use Rattle.dom_history.specs.declared.event.What.{What}
use Rattle.dom_history.specs.Objects.{is_node}
use Rattle.dom_history.specs.Ranges.{IsOp, IsWant}
use Rattle.call_once.specs.Calls.{looked, last_of}
use Rattle.call_once.specs.declared.served.Looked.{Looked}
use Rattle.call_once.specs.declared.served.Looked.TheVariants.{Fresh, Again, Old}
use Rattle.ring_messages.specs.Frames.{Message, caller_of}
use Rattle.ring_messages.specs.Bodies.{Ask, Answer, answer_of, body_of_answer}
use Rattle.ring_messages.specs.Ranges.{IsBody}
use Rattle.fault_handler.specs.declared.open_call.OpenCall.{OpenCall}
use Rattle.fault_handler.specs.declared.open_call.OpenCall.TheVariants as calls
use Rattle.fault_handler.specs.Desks.{DeskState, open_call_of, moving_of, at, put_at}
use Rattle.fault_handler.specs.Outcomes.{Turn, Moved}
use Rattle.fault_handler.specs.Accesses.{DeskOp, Accessed}
use Rattle.fault_handler.specs.PageReplies.{page_answer}
use Rattle.fault_handler.specs.LockCalls.{LockCall, lock_call, lock_answer, open_call}
use Rattle.fault_handler.specs.Invariant.{IsProc, IsDesk}
use Rattle.fault_handler.specs.Conditions.{IsIdle, IsAccessing}
use Rattle.fault_handler.proofs.Fours.{at-put_same, at-put_other}
use Rattle.lock_validate.specs.Faults.{call_failed_of}
use Rattle.lock_validate.proofs.Standing.{lock_call-is, answer-is}
use Rattle.lock_validate.specs.Causes.{Cause, comes_of, MayCome, IsOf}
use Rattle.lock_validate.specs.Turns.{IsMade}
use Rattle.lock_validate.proofs.EachCall.{comes_of-made}
use Rattle.node_runs.specs.Setups.{Given, IsGiven}
use Rattle.node_runs.specs.NodeStates.{Asked, Await, BegunOp, OpenOp, ProcState, NodeState, first_proc, proc_of}
use Rattle.node_runs.specs.Operations.{new_by, list_by, begun, gone_on, Said, said_to_new, said_to_list, said_to_lock, said_to_call, said_by, said_of, answered, access_failed, call_failed, failed}
use Rattle.node_runs.specs.Incomings.{Incoming, has_program}
use Rattle.node_runs.specs.Outcomes.{Stepped, Stage, moved as moved_by_op}
use Rattle.node_runs.specs.Notes.{Note}
use Rattle.node_runs.specs.Doings.{begun_at, stage_of, served_note, noticed_call, in_next_phase, others_marked}
use Rattle.node_runs.specs.Dones.{Did, asking, paused, finished, began, resumed, served, passed_over, heard, ignored, resent, gave_up, got_ready, marked}
use Rattle.node_runs.specs.Rooms.{MayMove}
use Rattle.node_runs.specs.Agreements.{IsCallOpen, IsCalling, Agrees}
use Rattle.node_runs.specs.SentFrames.{IsIncoming}
use Rattle.node_runs.specs.NodesKeep.{IsNodeOf}
use Rattle.run_laws.specs.LastCalls.{IsOpenNumber}
use Rattle.run_laws.specs.Progress.{IsApart}
use Rattle.node_runs.specs.Steps.{step_of}
use Rattle.node_runs.specs.Doings.{ticked}
use Rattle.node_runs.proofs.Doing.{step_of-did}
use Rattle.node_runs.proofs.Nodes.{node-with}
use Rattle.node_runs.proofs.SettingUp.{given-procs}
use Rattle.node_runs.proofs.MakingRoom.{always-may}
use Rattle.run_laws.specs.DeskSteps.{Takes, IsTaken, IsStageOf, TellsHome, IsOfHome, IsHomeAsk, IsHomeTurn, OpMove, apart, moves, IsSameAwait, IsSameDoing, IsAt, NodeMove, still, moved}

module _ (opening : Start) (incoming : Incoming) (doing : Option OpenOp) (d : DeskState) (p : ℕ) (is : IsDesk d) (proc : IsProc p) where
  abbrev OpTurn : Stage → Op → Moved → Type 0
  OpTurn stage op to = OpMove opening incoming doing stage d p op to

  caused : (stage : Stage) (c : Cause) (op : Op) (to : Moved) (may : MayCome d p c) → IsOf d p c op → IsStageOf stage c → IsTaken incoming d p doing c may → MayMove p (comes_of d p c) to → OpTurn stage op to
  caused stage c op to may of at taken way = moves c may of at taken (always-may p (IsMade c p d) (comes_of d p c) to (comes_of-made d p c is proc may) way)

  new-turn : (home : ℕ) (kind : ObjKind) (room : ℕ) (b : Bool) → (is_node opening home && nat_le room opening.greatest) ≡ b → OpTurn Stage.Starts (ops.New home kind room) (new_by d home kind room b)
  new-turn home kind room true fits = apart refl ((refl, refl), fits)
  new-turn home kind room false fits = apart refl (refl, fits)

  list-turn : (home : ℕ) (after : Option (ObjectName × ProcName)) (b : Bool) → is_node opening home ≡ b → OpTurn Stage.Starts (ops.List home after) (list_by d home after b)
  list-turn home after true there = apart refl ((refl, refl), there)
  list-turn home after false there = apart refl (refl, there)

  -- an operation begins
  begun-turn : (op : Op) (to : Moved) → IsIdle d p → IsOp op → MayMove p (begun opening d p op) to → OpTurn Stage.Starts op to
  begun-turn (ops.New home kind room) to idle range way = subst (OpTurn Stage.Starts (ops.New home kind room)) (sym way) (new-turn home kind room (is_node opening home && nat_le room opening.greatest) refl)
  begun-turn (ops.List home after) to idle range way = subst (OpTurn Stage.Starts (ops.List home after)) (sym way) (list-turn home after (is_node opening home) refl)
  begun-turn (ops.Lock u m) to idle range way = caused Stage.Starts (Cause.Locks u m) (ops.Lock u m) to idle refl tt tt way
  begun-turn (ops.Unlock u) to idle range way = caused Stage.Starts (Cause.Releases false u) (ops.Unlock u) to idle refl tt tt way
  begun-turn (ops.Delete u) to idle range way = caused Stage.Starts (Cause.Releases true u) (ops.Delete u) to idle refl tt tt way
  begun-turn (ops.Load spot count) to idle range way = caused Stage.Starts (Cause.Accesses (DeskOp.Loads spot count)) (ops.Load spot count) to (idle, range) refl tt tt way
  begun-turn (ops.Store spot bytes) to idle range way = caused Stage.Starts (Cause.Accesses (DeskOp.Stores spot bytes)) (ops.Store spot bytes) to (idle, range) refl tt tt way
  begun-turn (ops.Length u) to idle range way = caused Stage.Starts (Cause.Accesses (DeskOp.Measures u)) (ops.Length u) to (idle, range) refl tt tt way
  begun-turn (ops.Map u) to idle range way = caused Stage.Starts (Cause.Accesses (DeskOp.Maps u)) (ops.Map u) to (idle, range) refl tt tt way
  begun-turn (ops.Unmap u) to idle range way = caused Stage.Starts (Cause.Accesses (DeskOp.Unmaps u)) (ops.Unmap u) to (idle, range) refl tt tt way

  -- one that waited goes on
  resumed-turn : (op : Op) (accessed : Accessed) (to : Moved) → IsIdle d p → IsOp op → gone_on d p op ≡ Some accessed → MayMove p accessed to → OpTurn Stage.Resumes op to
  resumed-turn (ops.Load spot count) accessed to idle range goes way = caused Stage.Resumes (Cause.Accesses (DeskOp.Loads spot count)) (ops.Load spot count) to (idle, range) refl tt tt (subst (λ a. MayMove p a to) (sym (same_Some _ accessed goes)) way)
  resumed-turn (ops.Store spot bytes) accessed to idle range goes way = caused Stage.Resumes (Cause.Accesses (DeskOp.Stores spot bytes)) (ops.Store spot bytes) to (idle, range) refl tt tt (subst (λ a. MayMove p a to) (sym (same_Some _ accessed goes)) way)
  resumed-turn (ops.Unlock u) accessed to idle range goes way = caused Stage.Resumes (Cause.Releases false u) (ops.Unlock u) to idle refl tt tt (subst (λ a. MayMove p a to) (sym (same_Some _ accessed goes)) way)
  resumed-turn (ops.Delete u) accessed to idle range goes way = caused Stage.Resumes (Cause.Releases true u) (ops.Delete u) to idle refl tt tt (subst (λ a. MayMove p a to) (sym (same_Some _ accessed goes)) way)
  resumed-turn (ops.Lock u m) accessed to idle range goes way = absurd (cc)
  resumed-turn (ops.New home kind room) accessed to idle range goes way = absurd (cc)
  resumed-turn (ops.List home after) accessed to idle range goes way = absurd (cc)
  resumed-turn (ops.Length u) accessed to idle range goes way = absurd (cc)
  resumed-turn (ops.Map u) accessed to idle range goes way = absurd (cc)
  resumed-turn (ops.Unmap u) accessed to idle range goes way = absurd (cc)

  -- which call it is that is none of a lock, an unlock or a removal
  access-is : (call : OpenCall) → lock_call call ≡ None → call ≡ calls.Access
  access-is calls.Access none = refl
  access-is (calls.Lock u m) none = absurd (cc)
  access-is (calls.PageOut u k delete) none = absurd (cc)
  access-is (calls.AttrOut u n delete) none = absurd (cc)
  access-is (calls.Unlock u) none = absurd (cc)
  access-is (calls.Remove u) none = absurd (cc)

  module _ (number : ℕ) (op : Op) (ask : Ask) (opens : IsCallOpen d p op ask) where
    accessing : (call : OpenCall) → open_call_of d p ≡ Some call → lock_call call ≡ None → IsAccessing d p
    accessing call there none = there ∙ ap (λ (c : OpenCall). Some c) (access-is call none)

    locking : (call : OpenCall) (c : LockCall) → open_call_of d p ≡ Some call → lock_call call ≡ Some c → open_call_of d p ≡ Some (open_call c)
    locking call c there found = there ∙ ap (λ (o : OpenCall). Some o) (lock_call-is call c found)

    -- an answer came to the desk's open call
    by-lock : (x : Answer) (to : Moved) → Takes incoming p doing x → IsBody d.node (body_of_answer x) → (call : OpenCall) (o : Option LockCall) (said : Said) → open_call_of d p ≡ Some call → lock_call call ≡ o → said_to_lock d p x o ≡ Some said → MayMove p (answered d p said) to
        → OpTurn (stage_of number said) op to
    by-lock x to takes range call None said there none says way =
        let found = map-some Said.ToAccess (page_answer d p x) said says in
        subst (λ s. OpTurn (stage_of number s) op to) (sym found.2)
        (caused Stage.Resumes (Cause.PageCame found.0) op to (record { accessing = accessing call there none; answer = x; says = found.1; range = range }) opens.opened tt takes (subst (λ s. MayMove p (answered d p s) to) found.2 way))
    by-lock x to takes range call (Some c) said there is_c says way =
        let found = map-some Said.ToLock (lock_answer c x) said says in
        subst (λ s. OpTurn (stage_of number s) op to) (sym found.2)
        (caused (Stage.Settles number) (Cause.AnswerCame found.0) op to (record { ready = opens.ready; call = c; opened = locking call c there is_c; answer = x; says = found.1; range = range }) opens.opened tt takes (subst (λ s. MayMove p (answered d p s) to) found.2 way))

    call-answered : (x : Answer) (to : Moved) → Takes incoming p doing x → IsBody d.node (body_of_answer x) → (said : Said) → (open_call_of d p >>= said_to_call d p x) ≡ Some said → MayMove p (answered d p said) to → OpTurn (stage_of number said) op to
    call-answered x to takes range said says way =
        let found = bind-some (open_call_of d p) (said_to_call d p x) said says in
        by-lock x to takes range found.0 (lock_call found.0) said found.1 refl found.2 way

    -- it is given up
    by-failing : (call : OpenCall) (o : Option LockCall) (to : Moved) → open_call_of d p ≡ Some call → lock_call call ≡ o → call_failed d p o ≡ Some to → OpTurn (Stage.Settles number) op to
    by-failing call None to there none fails =
        let found = map-some (access_failed d p) (moving_of d p) to fails in
        caused (Stage.Settles number) (Cause.AccessFailed found.0) op to (accessing call there none, found.1) opens.opened tt tt found.2
    by-failing call (Some c) to there is_c fails = caused (Stage.Settles number) (Cause.CallFailed c) op to (opens.ready, locking call c there is_c) opens.opened tt tt (sym (same_Some (call_failed_of d p c) to fails))

    call-failed : (to : Moved) → (open_call_of d p >>= λ call. call_failed d p (lock_call call)) ≡ Some to → OpTurn (Stage.Settles number) op to
    call-failed to fails =
        let found = bind-some (open_call_of d p) (λ call. call_failed d p (lock_call call)) to fails in
        by-failing found.0 (lock_call found.0) to found.1 refl found.2

  -- a home's word ends a new object or a list
  word-turn : (number : ℕ) (op : Op) (x : Answer) (reply : Reply) (said : Said) (to : Moved) → Takes incoming p doing x → IsOfHome op → TellsHome op x reply → Said.Replies reply ≡ said → MayMove p (answered d p said) to → OpTurn (stage_of number said) op to
  word-turn number op x reply said to takes home tells same way =
      subst (λ s. OpTurn (stage_of number s) op to) same
      (subst (OpTurn (Stage.Settles number) op) (sym (subst (λ s. MayMove p (answered d p s) to) (sym same) way)) (apart refl (home, inr (x, takes, tells))))

  new-said : (number home : ℕ) (kind : ObjKind) (room : ℕ) (x : Answer) (said : Said) (to : Moved) → Takes incoming p doing x → said_to_new x ≡ Some said → MayMove p (answered d p said) to → OpTurn (stage_of number said) (ops.New home kind room) to
  new-said number home kind room (Answer.Made u) said to takes says way = word-turn number (ops.New home kind room) (Answer.Made u) (Made u) said to takes tt refl (same_Some _ said says) way
  new-said number home kind room Answer.NoSpace said to takes says way = word-turn number (ops.New home kind room) Answer.NoSpace NoSpace said to takes tt refl (same_Some _ said says) way
  new-said number home kind room x said to takes says way = absurd (cc)

  list-said : (number home : ℕ) (after : Option (ObjectName × ProcName)) (x : Answer) (said : Said) (to : Moved) → Takes incoming p doing x → said_to_list x ≡ Some said → MayMove p (answered d p said) to → OpTurn (stage_of number said) (ops.List home after) to
  list-said number home after (Answer.Listed rows more) said to takes says way = word-turn number (ops.List home after) (Answer.Listed rows more) (Locks rows more) said to takes tt refl (same_Some _ said says) way
  list-said number home after x said to takes says way = absurd (cc)

  by-op : (number : ℕ) (op : Op) (ask : Ask) (x : Answer) (said : Said) (to : Moved) → Takes incoming p doing x → IsCalling d p op ask → IsBody d.node (body_of_answer x) → said_by d p op x ≡ Some said → MayMove p (answered d p said) to → OpTurn (stage_of number said) op to
  by-op number (ops.New home kind room) ask x said to takes calling range says way = new-said number home kind room x said to takes says way
  by-op number (ops.List home after) ask x said to takes calling range says way = list-said number home after x said to takes says way
  by-op number (ops.Lock u m) ask x said to takes calling range says way = call-answered number (ops.Lock u m) ask calling x to takes range said says way
  by-op number (ops.Unlock u) ask x said to takes calling range says way = call-answered number (ops.Unlock u) ask calling x to takes range said says way
  by-op number (ops.Delete u) ask x said to takes calling range says way = call-answered number (ops.Delete u) ask calling x to takes range said says way
  by-op number (ops.Load spot count) ask x said to takes calling range says way = call-answered number (ops.Load spot count) ask calling x to takes range said says way
  by-op number (ops.Store spot bytes) ask x said to takes calling range says way = call-answered number (ops.Store spot bytes) ask calling x to takes range said says way
  by-op number (ops.Length u) ask x said to takes calling range says way = call-answered number (ops.Length u) ask calling x to takes range said says way
  by-op number (ops.Map u) ask x said to takes calling range says way = call-answered number (ops.Map u) ask calling x to takes range said says way
  by-op number (ops.Unmap u) ask x said to takes calling range says way = call-answered number (ops.Unmap u) ask calling x to takes range said says way

  -- an answer came that fits
  pub heard-turn : (op : Op) (ask : Ask) (m : Message) (said : Said) (to : Moved) → incoming ≡ Incoming.Frame m → m.proc ≡ p → IsOpenNumber m.number doing → IsCalling d p op ask → IsBody d.node m.body → said_of d p op m.body ≡ Some said → MayMove p (answered d p said) to
      → OpTurn (stage_of m.number said) op to
  heard-turn op ask m said to received own number calling range says way =
      let found = bind-some (answer_of m.body) (said_by d p op) said says in
      let body : m.body ≡ body_of_answer found.0 = answer-is m.body found.0 found.1 in
      by-op m.number op ask found.0 said to (record { frame = m; received = received; proc = own; number = number; body = body }) calling (subst (IsBody d.node) body range) found.2 way

  -- a call was given up
  pub gave_up-turn : (number : ℕ) (op : Op) (ask : Ask) (to : Moved) → IsCalling d p op ask → failed d p op ≡ Some to → OpTurn (Stage.Settles number) op to
  gave_up-turn number (ops.New home kind room) ask to calling fails = subst (OpTurn (Stage.Settles number) (ops.New home kind room)) (same_Some _ to fails) (apart refl (tt, inl refl))
  gave_up-turn number (ops.List home after) ask to calling fails = subst (OpTurn (Stage.Settles number) (ops.List home after)) (same_Some _ to fails) (apart refl (tt, inl refl))
  gave_up-turn number (ops.Lock u m) ask to calling fails = call-failed number (ops.Lock u m) ask calling to fails
  gave_up-turn number (ops.Unlock u) ask to calling fails = call-failed number (ops.Unlock u) ask calling to fails
  gave_up-turn number (ops.Delete u) ask to calling fails = call-failed number (ops.Delete u) ask calling to fails
  gave_up-turn number (ops.Load spot count) ask to calling fails = call-failed number (ops.Load spot count) ask calling to fails
  gave_up-turn number (ops.Store spot bytes) ask to calling fails = call-failed number (ops.Store spot bytes) ask calling to fails
  gave_up-turn number (ops.Length u) ask to calling fails = call-failed number (ops.Length u) ask calling to fails
  gave_up-turn number (ops.Map u) ask to calling fails = call-failed number (ops.Map u) ask calling to fails
  gave_up-turn number (ops.Unmap u) ask to calling fails = call-failed number (ops.Unmap u) ask calling to fails

-- the operation begins, or is the open one
abbrev pub IsContinued : Option OpenOp → BegunOp → Type 0
IsContinued None o = Unit {0}
IsContinued (Some r) o = o ≡ r.began

pub at-continued : (doing : Option OpenOp) (o : BegunOp) (stage : Stage) → IsAt doing o stage → IsContinued doing o
at-continued None o stage at = tt
at-continued (Some r) o Stage.Starts at = absurd at
at-continued (Some r) o Stage.Resumes at = at
at-continued (Some r) o (Stage.Settles number) at = at.0

-- what a new object or a list asks
pub home-asks : (opening : Start) (incoming : Incoming) (p : ℕ) (doing : Option OpenOp) (stage : Stage) (op : Op) (to : ℕ) (ask : Ask) → IsHomeTurn opening incoming p doing stage op (Turn.Asks to ask) → IsHomeAsk op to ask
home-asks opening incoming p doing Stage.Starts (ops.New home kind room) to ask turn = turn.0
home-asks opening incoming p doing Stage.Starts (ops.List home after) to ask turn = turn.0
home-asks opening incoming p doing Stage.Starts op to ask turn = absurd turn
home-asks opening incoming p doing Stage.Resumes op to ask turn = absurd turn
home-asks opening incoming p doing (Stage.Settles number) op to ask turn = absurd turn

-- a reply settles its operation, or the operation goes on with it
said-at : (o : BegunOp) (c : Asked) (number : ℕ) → c.waiting.number ≡ number → (said : Said) → IsAt (asking o c) o (stage_of number said)
said-at o c number is (Said.Replies reply) = (refl, is)
said-at o c number is (Said.ToAccess answer) = refl
said-at o c number is (Said.ToLock answer) = (refl, is)

same-await : (a : Await) → IsSameAwait a a
same-await (Await.Answer c) = (refl, refl, refl)
same-await (Await.Page u k) = (refl, refl)

pub same-doing : (o : Option OpenOp) → IsSameDoing o o
same-doing None = tt
same-doing (Some o) = (refl, same-await o.awaits)

module _ (g : Given) (n : NodeState) (incoming : Incoming) (four : length n.procs ≡ 4) where
  -- the processes after one of them did something
  put-same : (p : ℕ) → IsProc p → (new : ProcState) (procs : List ProcState) → procs ≡ put_at n.procs p new → IsSameDoing (proc_of n p).doing new.doing → (q : ℕ) → IsProc q → IsSameDoing (proc_of n q).doing (at procs q first_proc).doing
  put-same p proc new procs is here q other = elim (cases_eq q p) [
    | inl there ↦ subst (λ r. IsSameDoing (proc_of n r).doing (at procs r first_proc).doing) (sym there)
        (subst (λ (x : ProcState). IsSameDoing (proc_of n p).doing x.doing) (sym (ap (λ ps. at ps p first_proc) is ∙ at-put_same n.procs p new first_proc four proc)) here)
    | inr beside ↦ subst (λ (x : ProcState). IsSameDoing (proc_of n q).doing x.doing) (sym (ap (λ ps. at ps q first_proc) is ∙ at-put_other n.procs p q new first_proc proc other beside)) (same-doing (proc_of n q).doing)
  ]

  turned-node : (p : ℕ) → IsProc p → (o : BegunOp) (stage : Stage) (to : Moved) → IsAt (proc_of n p).doing o stage → OpMove g.opening incoming (proc_of n p).doing stage n.desk p o.op to → NodeMove g n incoming (moved_by_op g n p o stage to)
  turned-node p proc o stage to at made = by to.turn made
    where
      by : (turn : Turn) → OpMove g.opening incoming (proc_of n p).doing stage n.desk p o.op (record to { turn = turn }) → NodeMove g n incoming (moved_by_op g n p o stage (record to { turn = turn }))
      by (Turn.Ends reply) made = moved p o stage (record to { turn = Turn.Ends reply }) proc at made refl (ap (λ (q : ProcState). q.doing) (at-put_same n.procs p _ first_proc four proc)) (λ q other differs. at-put_other n.procs p q _ first_proc proc other differs) refl refl refl
      by (Turn.Asks home ask) made = moved p o stage (record to { turn = Turn.Asks home ask }) proc at made refl (ap (λ (q : ProcState). q.doing) (at-put_same n.procs p _ first_proc four proc)) (λ q other differs. at-put_other n.procs p q _ first_proc proc other differs) refl refl refl
      by (Turn.Waits u k) made = moved p o stage (record to { turn = Turn.Waits u k }) proc at made refl (ap (λ (q : ProcState). q.doing) (at-put_same n.procs p _ first_proc four proc)) (λ q other differs. at-put_other n.procs p q _ first_proc proc other differs) refl refl refl

  next-procs : (b : Bool) (x : NodeState) → x.procs ≡ n.procs → (in_next_phase b x).procs ≡ n.procs
  next-procs true x same = same
  next-procs false x same = same

  next-desk : (b : Bool) (x : NodeState) → x.desk ≡ n.desk → (in_next_phase b x).desk ≡ n.desk
  next-desk true x same = same
  next-desk false x same = same

  phase-still : (s : Stepped) (b : Bool) (x : NodeState) → s.node ≡ in_next_phase b x → x.procs ≡ n.procs → x.desk ≡ n.desk → s.note ≡ Note.Nothing → s.call ≡ None → NodeMove g n incoming s
  phase-still s b x is procs desk none uncalled =
      still (ap (λ (y : NodeState). y.desk) is ∙ next-desk b x desk)
      (λ q other. subst (λ (y : ProcState). IsSameDoing (proc_of n q).doing y.doing) (sym (ap (λ (y : NodeState). proc_of y q) is ∙ ap (λ ps. at ps q first_proc) (next-procs b x procs))) (same-doing (proc_of n q).doing))
      (subst IsApart (sym none) tt) uncalled

served-apart : (how : Looked) (p : ProcName) (number : ℕ) (ask : Ask) (answer : Answer) → IsApart (served_note how p number ask answer)
served-apart Fresh p number ask answer = tt
served-apart Again p number ask answer = tt
served-apart Old p number ask answer = tt

-- what an event did to the desk of its node
pub did-desk : (g : Given) → IsGiven g → ((p : ℕ) → has_program g p ≡ true → IsProc p) → (n : NodeState) → IsNodeOf g n → (what : What) (incoming : Incoming) (s : Stepped) → IsIncoming incoming → Did g n what incoming s → NodeMove g n incoming s
did-desk g given procs n is what incoming s frame (paused p has none want) = still refl (put-same g n incoming is.four p (procs p has) _ _ refl (same-doing (proc_of n p).doing)) tt refl
did-desk g given procs n is what incoming s frame (finished p has none want) = still refl (put-same g n incoming is.four p (procs p has) _ _ refl (same-doing (proc_of n p).doing)) tt refl
did-desk g given procs n is what incoming s frame (began p op to has none want way) =
    let proc = procs p has in
    let range : IsOp op = subst IsWant want (given.wants p (proc_of n p).heard (is.followed p proc).fitting (is.followed p proc).named) in
    turned-node g n incoming is.four p proc (begun_at g n op) Stage.Starts to (subst (λ x. IsAt x (begun_at g n op) Stage.Starts) (sym none) tt)
    (begun-turn g.opening incoming (proc_of n p).doing n.desk p is.desk proc op to (subst (Agrees n.desk p (proc_of n p).last) none (is.agrees p proc)) range way)
did-desk g given procs n is what incoming s frame (resumed p o u k accessed to has doing come goes way) =
    let proc = procs p has in
    let agrees = subst (Agrees n.desk p (proc_of n p).last) doing (is.agrees p proc) in
    turned-node g n incoming is.four p proc o Stage.Resumes to (subst (λ x. IsAt x o Stage.Resumes) (sym doing) refl)
    (resumed-turn g.opening incoming (proc_of n p).doing n.desk p is.desk proc o.op accessed to agrees.1.idle agrees.0 goes way)
did-desk g given procs n is what incoming s frame (served from index m ask answer sender receiver asks answers) =
    still refl (λ q other. same-doing (proc_of n q).doing) (served-apart (looked m.number (last_of (caller_of m) n.side.served)) (caller_of m) m.number ask answer) refl
did-desk g given procs n is what incoming s frame (passed_over from index m ask sender receiver asks none) = still refl (λ q other. same-doing (proc_of n q).doing) tt refl
did-desk g given procs n is what incoming s frame (heard from index m o c said to sender receiver asks doing same says way) =
    let proc : IsProc m.proc = (frame.range.proc_low, frame.range.proc_high) in
    let agrees = subst (Agrees n.desk m.proc (proc_of n m.proc).last) doing (is.agrees m.proc proc) in
    let number : c.waiting.number ≡ m.number = sym (equal m.number c.waiting.number same) in
    turned-node g n incoming is.four m.proc proc o (stage_of m.number said) to (subst (λ x. IsAt x o (stage_of m.number said)) (sym doing) (said-at o c m.number number said))
    (heard-turn g.opening incoming (proc_of n m.proc).doing n.desk m.proc is.desk proc o.op c.ask m said to refl refl (subst (IsOpenNumber m.number) (sym doing) number) agrees.1.0 (subst (λ k. IsBody k m.body) (receiver ∙ sym is.own.node) frame.range.body) says way)
did-desk g given procs n is what incoming s frame (ignored from index m sender receiver asks) = still refl (λ q other. same-doing (proc_of n q).doing) tt refl
did-desk g given procs n is what incoming s frame (resent p from to index number tick o c has doing same answer) =
    still refl (put-same g n incoming is.four p (procs p has) _ _ refl (subst (λ x. IsSameDoing x (asking o (noticed_call c))) (sym doing) (refl, (refl, refl, refl)))) tt refl
did-desk g given procs n is what incoming s frame (gave_up p from to index number tick o c into has doing same answer fails) =
    let proc = procs p has in
    let agrees = subst (Agrees n.desk p (proc_of n p).last) doing (is.agrees p proc) in
    turned-node g n incoming is.four p proc o (Stage.Settles c.waiting.number) into (subst (λ x. IsAt x o (Stage.Settles c.waiting.number)) (sym doing) (refl, refl))
    (gave_up-turn g.opening incoming (proc_of n p).doing n.desk p is.desk proc c.waiting.number o.op c.ask into agrees.1.0 fails)
did-desk g given procs n is what incoming s frame (got_ready phase may) = let x = record n { ready = true } in phase-still g n incoming is.four s (x.ready && others_marked g x) x refl refl refl refl refl
did-desk g given procs n is what incoming s frame (marked from phase tick may) = let x = record n { marks = (from, phase) ∷ n.marks } in phase-still g n incoming is.four s (x.ready && others_marked g x) x refl refl refl refl refl

-- so each step of a node
pub step-desk : (g : Given) (n : NodeState) (what : What) (incoming : Incoming) (dropped : List (ObjectName × ℕ)) (s : Stepped) → IsGiven g → IsNodeOf g n → IsIncoming incoming → step_of g n what incoming dropped ≡ Some s → NodeMove g (ticked n incoming) incoming s
step-desk g n what incoming dropped s given is frame e =
    did-desk g given (given-procs g given.programs) (ticked n incoming) (node-with g n (ticked n incoming) is refl refl is.side is.home is.within.side) what incoming s frame (step_of-did g n what incoming dropped s e)
