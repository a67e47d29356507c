-- What each event of a node makes of the order of its cache's pages.
use Rattle.std.proofs.Common.{◌≡◌, ℕ, Bool, true, false, List, ◌∷◌, Option, Some, None, refl, sym, ap, subst, ◌∙◌}
use Rattle.std.specs.Prelude.{◌&&◌, ◌==◌, nat_le}
use Rattle.std.proofs.lemmas.Option.{same_Some}
use Rattle.uid_names.specs.Names.{ObjectName, ProcName}
use Rattle.uid_names.specs.Steps.{◌>>=◌}
use Rattle.uid_names.specs.Openings.{Start}
use Rattle.uid_names.specs.declared.ids.Place.{Place}
use Rattle.uid_names.specs.declared.mode.ObjKind.{ObjKind}
use Rattle.uid_names.proofs.Passed.{equal}
use Rattle.uid_names.proofs.Somes.{map-some, bind-some}
use Rattle.dom_history.specs.declared.op.Op.{Op}
use Rattle.dom_history.specs.declared.op.Op.TheVariants as ops
use Rattle.dom_history.specs.declared.op.Reply.{Reply}
use Rattle.dom_history.specs.declared.event.What.{What}
use Rattle.dom_history.specs.Objects.{is_node}
use Rattle.dom_history.specs.Ranges.{IsOp, IsWant}
use Rattle.call_once.specs.Calls.{looked, last_of}
use Rattle.call_once.specs.declared.served.Looked.{Looked}
use Rattle.call_once.specs.declared.served.Looked.TheVariants.{Fresh, Again, Old}
use Rattle.ring_messages.specs.Frames.{Message, caller_of}
use Rattle.ring_messages.specs.Bodies.{Ask, Answer, answer_of}
use Rattle.ring_messages.specs.Ranges.{IsBody}
use Rattle.fault_handler.specs.declared.open_call.OpenCall.{OpenCall}
use Rattle.fault_handler.specs.declared.open_call.OpenCall.TheVariants as calls
use Rattle.fault_handler.specs.declared.tasks.Task.{Task}
use Rattle.fault_handler.specs.Desks.{DeskState, open_call_of, task_of, moving_of}
use Rattle.fault_handler.specs.Outcomes.{Turn, Moved}
use Rattle.fault_handler.specs.Accesses.{DeskOp, Accessed}
use Rattle.fault_handler.specs.PageReplies.{PageAnswer, page_answer}
use Rattle.fault_handler.specs.LockCalls.{LockCall, lock_call, lock_answer}
use Rattle.fault_handler.specs.Invariant.{IsProc, IsDesk}
use Rattle.fault_handler.specs.Conditions.{IsIdle}
use Rattle.fault_handler.specs.Next.{IsTaskOf, IsCallOf}
use Rattle.lock_validate.specs.Causes.{Cause, MayCome, comes_of}
use Rattle.lock_validate.specs.Turns.{IsMade}
use Rattle.lock_validate.proofs.EachCall.{comes_of-made}
use Rattle.node_runs.specs.Setups.{Given, IsGiven}
use Rattle.node_runs.specs.NodeStates.{Asked, BegunOp, OpenOp, NodeState, proc_of}
use Rattle.node_runs.specs.Operations.{begun, gone_on, Said, said_to_new, said_to_list, said_to_lock, said_to_call, said_by, said_of, answered, new_by, list_by}
use Rattle.node_runs.specs.Incomings.{Incoming, has_program}
use Rattle.node_runs.specs.Outcomes.{Stage, Stepped, moved}
use Rattle.node_runs.specs.Doings.{begun_at, served_note, stage_of, others_marked, in_next_phase, ticked}
use Rattle.node_runs.specs.Dones.{Did, paused, finished, began, resumed, served, passed_over, heard, ignored, resent, gave_up, got_ready, marked, asking}
use Rattle.node_runs.specs.Rooms.{MayMove}
use Rattle.node_runs.specs.Steps.{step_of}
use Rattle.node_runs.specs.Agreements.{IsCallOpen, IsCalling, Agrees}
use Rattle.node_runs.specs.SentFrames.{IsIncoming}
use Rattle.node_runs.specs.NodesKeep.{IsNodeOf}
use Rattle.node_runs.proofs.MakingRoom.{always-may}
use Rattle.node_runs.proofs.Doing.{step_of-did}
use Rattle.node_runs.proofs.Nodes.{node-with}
use Rattle.node_runs.proofs.SettingUp.{given-procs}
use Rattle.run_laws.specs.LastCalls.{IsOpenNumber}
use Rattle.run_laws.specs.DeskSteps.{OpMove, IsStageOf}
use Rattle.run_laws.specs.OpenTasks.{IsAtSpot, IsPlacedAt, AreTasksPlaced}
use Rattle.run_laws.proofs.OpenTasks.{open_task_of, answer-task}
use Rattle.recent_runs.specs.Uses.{used_by, used_in}
use Rattle.recent_runs.proofs.PageNames.{Kept}
use Rattle.recent_runs.proofs.Keeping.{UsesNone, moves-kept}
use Rattle.recent_runs.proofs.Performing.{DoneKept, OpKept, op_use, load-use, store-use, answer-kept, load-kept, store-kept}
use Rattle.run_laws.proofs.DeskSteps.{heard-turn, gave_up-turn}

-- an operation that is neither a load nor a store uses nothing
unused : (d : DeskState) (p : ℕ) (op : Op) → ((reply : Reply) → used_by d p op reply ≡ None) → (turn : Turn) → op_use d p op turn ≡ None
unused d p op none (Turn.Ends reply) = none reply
unused d p op none (Turn.Asks home ask) = refl
unused d p op none (Turn.Waits u k) = refl

-- which call it is that is none of a lock, an unlock or a removal
access-is : (call : OpenCall) → lock_call call ≡ None → call ≡ calls.Access
access-is calls.Access none = refl
access-is (calls.Lock u m) none = absurd (cc)
access-is (calls.PageOut u k delete) none = absurd (cc)
access-is (calls.AttrOut u n delete) none = absurd (cc)
access-is (calls.Unlock u) none = absurd (cc)
access-is (calls.Remove u) none = absurd (cc)

module _ (d : DeskState) (p : ℕ) (is : IsDesk d) (proc : IsProc p) (to : Moved) where
  caused-kept : (c : Cause) → UsesNone c → MayCome d p c → MayMove p (comes_of d p c) to → Kept None d.cache.pages to.desk.cache.pages
  caused-kept c none may way = moves-kept c none to.turn p d to.desk to.dropped (always-may p (IsMade c p d) (comes_of d p c) to (comes_of-made d p c is proc may) way).moves

  other-kept : (op : Op) → ((reply : Reply) → used_by d p op reply ≡ None) → Kept None d.cache.pages to.desk.cache.pages → OpKept d p op to
  other-kept op none kept = subst (λ page. Kept page d.cache.pages to.desk.cache.pages) (sym (unused d p op none to.turn)) kept

  new-kept : (home : ℕ) (kind : ObjKind) (room : ℕ) (b : Bool) → MayMove p (Accessed.Settled (new_by d home kind room b)) to → Kept None d.cache.pages to.desk.cache.pages
  new-kept home kind room true way = subst (λ (m : Moved). Kept None d.cache.pages m.desk.cache.pages) (sym way) (λ used are. are)
  new-kept home kind room false way = subst (λ (m : Moved). Kept None d.cache.pages m.desk.cache.pages) (sym way) (λ used are. are)

  list-kept : (home : ℕ) (after : Option (ObjectName × ProcName)) (b : Bool) → MayMove p (Accessed.Settled (list_by d home after b)) to → Kept None d.cache.pages to.desk.cache.pages
  list-kept home after true way = subst (λ (m : Moved). Kept None d.cache.pages m.desk.cache.pages) (sym way) (λ used are. are)
  list-kept home after false way = subst (λ (m : Moved). Kept None d.cache.pages m.desk.cache.pages) (sym way) (λ used are. are)

  -- an operation begins
  begun-kept : (opening : Start) (op : Op) → IsIdle d p → IsOp op → MayMove p (begun opening d p op) to → OpKept d p op to
  begun-kept opening (ops.New home kind room) idle range way = other-kept (ops.New home kind room) (λ reply. refl) (new-kept home kind room (is_node opening home && nat_le room opening.greatest) way)
  begun-kept opening (ops.List home after) idle range way = other-kept (ops.List home after) (λ reply. refl) (list-kept home after (is_node opening home) way)
  begun-kept opening (ops.Lock u m) idle range way = other-kept (ops.Lock u m) (λ reply. refl) (caused-kept (Cause.Locks u m) (λ q e task h. h) idle way)
  begun-kept opening (ops.Unlock u) idle range way = other-kept (ops.Unlock u) (λ reply. refl) (caused-kept (Cause.Releases false u) (λ q e task h. h) idle way)
  begun-kept opening (ops.Delete u) idle range way = other-kept (ops.Delete u) (λ reply. refl) (caused-kept (Cause.Releases true u) (λ q e task h. h) idle way)
  begun-kept opening (ops.Length u) idle range way = other-kept (ops.Length u) (λ reply. refl) (caused-kept (Cause.Accesses (DeskOp.Measures u)) (λ q e task h. h) (idle, range) way)
  begun-kept opening (ops.Map u) idle range way = other-kept (ops.Map u) (λ reply. refl) (caused-kept (Cause.Accesses (DeskOp.Maps u)) (λ q e task h. h) (idle, range) way)
  begun-kept opening (ops.Unmap u) idle range way = other-kept (ops.Unmap u) (λ reply. refl) (caused-kept (Cause.Accesses (DeskOp.Unmaps u)) (λ q e task h. h) (idle, range) way)
  begun-kept opening (ops.Load spot count) idle range way = load-kept d p spot to count way
  begun-kept opening (ops.Store spot bytes) idle range way = store-kept d p spot to bytes way

  -- one that waited goes on
  resumed-kept : (op : Op) (accessed : Accessed) → IsIdle d p → gone_on d p op ≡ Some accessed → MayMove p accessed to → OpKept d p op to
  resumed-kept (ops.Load spot count) accessed idle goes way = load-kept d p spot to count (subst (λ a. MayMove p a to) (sym (same_Some _ accessed goes)) way)
  resumed-kept (ops.Store spot bytes) accessed idle goes way = store-kept d p spot to bytes (subst (λ a. MayMove p a to) (sym (same_Some _ accessed goes)) way)
  resumed-kept (ops.Unlock u) accessed idle goes way = other-kept (ops.Unlock u) (λ reply. refl) (caused-kept (Cause.Releases false u) (λ q e task h. h) idle (subst (λ a. MayMove p a to) (sym (same_Some _ accessed goes)) way))
  resumed-kept (ops.Delete u) accessed idle goes way = other-kept (ops.Delete u) (λ reply. refl) (caused-kept (Cause.Releases true u) (λ q e task h. h) idle (subst (λ a. MayMove p a to) (sym (same_Some _ accessed goes)) way))
  resumed-kept (ops.Lock u m) accessed idle goes way = absurd (cc)
  resumed-kept (ops.New home kind room) accessed idle goes way = absurd (cc)
  resumed-kept (ops.List home after) accessed idle goes way = absurd (cc)
  resumed-kept (ops.Length u) accessed idle goes way = absurd (cc)
  resumed-kept (ops.Map u) accessed idle goes way = absurd (cc)
  resumed-kept (ops.Unmap u) accessed idle goes way = absurd (cc)

  -- a load or store goes on with the answer to its call
  placed-kept : (op : Op) (task : Task) → IsAtSpot d p op task → IsTaskOf op (Some task) → DoneKept d task to → OpKept d p op to
  placed-kept (ops.Load spot count) task at of kept = subst (λ page. Kept page d.cache.pages to.desk.cache.pages) (load-use d p spot count task at of.1 to.turn) kept
  placed-kept (ops.Store spot bytes) task at of kept = subst (λ page. Kept page d.cache.pages to.desk.cache.pages) (store-use d p spot bytes task at of.1 to.turn) kept
  placed-kept (ops.New home kind room) task at of kept = absurd at
  placed-kept (ops.List home after) task at of kept = absurd at
  placed-kept (ops.Lock u m) task at of kept = absurd at
  placed-kept (ops.Unlock u) task at of kept = absurd at
  placed-kept (ops.Delete u) task at of kept = absurd at
  placed-kept (ops.Length u) task at of kept = absurd at
  placed-kept (ops.Map u) task at of kept = absurd at
  placed-kept (ops.Unmap u) task at of kept = absurd at

  module _ (op : Op) (began_at : Place) (c : Asked) (placed : IsPlacedAt d p (asking (record { op = op; begun = began_at }) c) (task_of d p)) (a : PageAnswer) (way : MayMove p (answered d p (Said.ToAccess a)) to) where
    found-kept : (x : Answer) (call : OpenCall) → IsCallOf op (task_of d p) (open_call_of d p) → open_call_of d p ≡ Some call → lock_call call ≡ None → page_answer d p x ≡ Some a → OpKept d p op to
    found-kept x call opened there none says =
        let task = answer-task d.cache.pages (task_of d p) (moving_of d p) x a says in
        let at : IsAtSpot d p op (open_task_of a) = subst (IsPlacedAt d p (asking (record { op = op; begun = began_at }) c)) task placed in
        let of : IsTaskOf op (task_of d p) = subst (IsCallOf op (task_of d p)) (there ∙ ap (λ (y : OpenCall). Some y) (access-is call none)) opened in
        placed-kept op (open_task_of a) at (subst (IsTaskOf op) task of) (answer-kept d p to a way)

    by-call : (x : Answer) (call : OpenCall) (l : Option LockCall) → IsCallOf op (task_of d p) (open_call_of d p) → open_call_of d p ≡ Some call → lock_call call ≡ l → said_to_lock d p x l ≡ Some (Said.ToAccess a) → OpKept d p op to
    by-call x call None opened there none says =
        let found = map-some Said.ToAccess (page_answer d p x) (Said.ToAccess a) says in
        let same : found.0 ≡ a = (let e = found.2 in cc) in
        found-kept x call opened there none (found.1 ∙ ap (λ (y : PageAnswer). Some y) same)
    by-call x call (Some l) opened there is_l says = let found = map-some Said.ToLock (lock_answer l x) (Said.ToAccess a) says in absurd (let e = found.2 in cc)

    call-kept : (x : Answer) (ask : Ask) → IsCallOpen d p op ask → (open_call_of d p >>= said_to_call d p x) ≡ Some (Said.ToAccess a) → OpKept d p op to
    call-kept x ask calling says =
        let found = bind-some (open_call_of d p) (said_to_call d p x) (Said.ToAccess a) says in
        by-call x found.0 (lock_call found.0) calling.opened found.1 refl found.2

  no-made : (x : Answer) (a : PageAnswer) → said_to_new x ≡ Some (Said.ToAccess a) → ⊥
  no-made (Answer.Made u) a says = absurd (cc)
  no-made Answer.NoSpace a says = absurd (cc)
  no-made x a says = absurd (cc)

  no-list : (x : Answer) (a : PageAnswer) → said_to_list x ≡ Some (Said.ToAccess a) → ⊥
  no-list (Answer.Listed rows more) a says = absurd (cc)
  no-list x a says = absurd (cc)

  -- an answer came to a load or store
  said-kept : (op : Op) (began_at : Place) (c : Asked) (x : Answer) (a : PageAnswer) → IsPlacedAt d p (asking (record { op = op; begun = began_at }) c) (task_of d p) → IsCalling d p op c.ask → said_by d p op x ≡ Some (Said.ToAccess a)
      → MayMove p (answered d p (Said.ToAccess a)) to → OpKept d p op to
  said-kept (ops.New home kind room) at c x a placed calling says way = absurd (no-made x a says)
  said-kept (ops.List home after) at c x a placed calling says way = absurd (no-list x a says)
  said-kept (ops.Lock u m) at c x a placed calling says way = call-kept (ops.Lock u m) at c placed a way x c.ask calling says
  said-kept (ops.Unlock u) at c x a placed calling says way = call-kept (ops.Unlock u) at c placed a way x c.ask calling says
  said-kept (ops.Delete u) at c x a placed calling says way = call-kept (ops.Delete u) at c placed a way x c.ask calling says
  said-kept (ops.Load spot count) at c x a placed calling says way = call-kept (ops.Load spot count) at c placed a way x c.ask calling says
  said-kept (ops.Store spot bytes) at c x a placed calling says way = call-kept (ops.Store spot bytes) at c placed a way x c.ask calling says
  said-kept (ops.Length u) at c x a placed calling says way = call-kept (ops.Length u) at c placed a way x c.ask calling says
  said-kept (ops.Map u) at c x a placed calling says way = call-kept (ops.Map u) at c placed a way x c.ask calling says
  said-kept (ops.Unmap u) at c x a placed calling says way = call-kept (ops.Unmap u) at c placed a way x c.ask calling says

-- what settles an operation uses nothing
settled-kept : (opening : Start) (incoming : Incoming) (doing : Option OpenOp) (number : ℕ) (d : DeskState) (p : ℕ) (op : Op) (m : Moved) → OpMove opening incoming doing (Stage.Settles number) d p op m → Kept None d.cache.pages m.desk.cache.pages
settled-kept opening incoming doing number d p op m (OpMove.apart same turn) = subst (λ (e : DeskState). Kept None d.cache.pages e.cache.pages) (sym same) (λ used are. are)
settled-kept opening incoming doing number d p op m (OpMove.moves c may of at taken made) = moves-kept c (by c at) m.turn p d m.desk m.dropped made.moves
  where
    by : (c : Cause) → IsStageOf (Stage.Settles number) c → UsesNone c
    by (Cause.AnswerCame a) at = λ q e task h. h
    by (Cause.AccessFailed t) at = λ q e task h. h
    by (Cause.CallFailed call) at = λ q e task h. h
    by (Cause.Accesses op) at = absurd at
    by (Cause.Locks u m) at = absurd at
    by (Cause.Releases delete u) at = absurd at
    by (Cause.PageCame a) at = absurd at

-- what the note says
abbrev pub StepKept : NodeState → Stepped → Type 0
StepKept n s = Kept (used_in n.desk s.note) n.desk.cache.pages s.node.desk.cache.pages

module _ (g : Given) (n : NodeState) (p : ℕ) (o : BegunOp) (to : Moved) where
  starts-kept : OpKept n.desk p o.op to → StepKept n (moved g n p o Stage.Starts to)
  starts-kept kept = by to.turn kept
    where
      by : (turn : Turn) → Kept (op_use n.desk p o.op turn) n.desk.cache.pages to.desk.cache.pages → StepKept n (moved g n p o Stage.Starts (record to { turn = turn }))
      by (Turn.Ends reply) kept = kept
      by (Turn.Asks home ask) kept = kept
      by (Turn.Waits u k) kept = kept

  resumes-kept : OpKept n.desk p o.op to → StepKept n (moved g n p o Stage.Resumes to)
  resumes-kept kept = by to.turn kept
    where
      by : (turn : Turn) → Kept (op_use n.desk p o.op turn) n.desk.cache.pages to.desk.cache.pages → StepKept n (moved g n p o Stage.Resumes (record to { turn = turn }))
      by (Turn.Ends reply) kept = kept
      by (Turn.Asks home ask) kept = kept
      by (Turn.Waits u k) kept = kept

  settles-kept : (number : ℕ) → Kept None n.desk.cache.pages to.desk.cache.pages → StepKept n (moved g n p o (Stage.Settles number) to)
  settles-kept number kept = by to.turn kept
    where
      by : (turn : Turn) → Kept None n.desk.cache.pages to.desk.cache.pages → StepKept n (moved g n p o (Stage.Settles number) (record to { turn = turn }))
      by (Turn.Ends reply) kept = kept
      by (Turn.Asks home ask) kept = kept
      by (Turn.Waits u k) kept = kept

served-unused : (d : DeskState) (how : Looked) (p : ProcName) (number : ℕ) (ask : Ask) (answer : Answer) → used_in d (served_note how p number ask answer) ≡ None
served-unused d Fresh p number ask answer = refl
served-unused d Again p number ask answer = refl
served-unused d Old p number ask answer = refl

phase-kept : (b : Bool) (x : NodeState) → Kept None x.desk.cache.pages (in_next_phase b x).desk.cache.pages
phase-kept true x = λ used are. are
phase-kept false x = λ used are. are

module _ (g : Given) (given : IsGiven g) (procs : (p : ℕ) → has_program g p ≡ true → IsProc p) (n : NodeState) (is : IsNodeOf g n) (placed : AreTasksPlaced n) where
  -- an answer came
  heard-kept : (incoming : Incoming) (m : Message) (o : BegunOp) (c : Asked) (said : Said) (to : Moved) → incoming ≡ Incoming.Frame m → IsProc m.proc → (proc_of n m.proc).doing ≡ asking o c → IsCalling n.desk m.proc o.op c.ask → IsBody n.desk.node m.body
      → (m.number == c.waiting.number) ≡ true → said_of n.desk m.proc o.op m.body ≡ Some said → MayMove m.proc (answered n.desk m.proc said) to → StepKept n (moved g n m.proc o (stage_of m.number said) to)
  heard-kept incoming m o c (Said.ToAccess a) to received proc doing calling range same says way =
      let found = bind-some (answer_of m.body) (said_by n.desk m.proc o.op) (Said.ToAccess a) says in
      resumes-kept g n m.proc o to (said-kept n.desk m.proc is.desk proc to o.op o.begun c found.0 a (subst (λ x. IsPlacedAt n.desk m.proc x (task_of n.desk m.proc)) doing (placed m.proc proc)) calling found.2 way)
  heard-kept incoming m o c (Said.Replies reply) to received proc doing calling range same says way =
      settles-kept g n m.proc o to m.number (subst (λ (x : Moved). Kept None n.desk.cache.pages x.desk.cache.pages) (sym way) (λ used are. are))
  heard-kept incoming m o c (Said.ToLock a) to received proc doing calling range same says way =
      let number : c.waiting.number ≡ m.number = sym (equal m.number c.waiting.number same) in
      settles-kept g n m.proc o to m.number (settled-kept g.opening incoming (proc_of n m.proc).doing m.number n.desk m.proc o.op to
      (heard-turn g.opening incoming (proc_of n m.proc).doing n.desk m.proc is.desk proc o.op c.ask m (Said.ToLock a) to received refl (subst (IsOpenNumber m.number) (sym doing) number) calling range says way))

  pub did-kept : (what : What) (incoming : Incoming) (s : Stepped) → IsIncoming incoming → Did g n what incoming s → StepKept n s
  did-kept what incoming s frame (paused p has none want) = λ used are. are
  did-kept what incoming s frame (finished p has none want) = λ used are. are
  did-kept what incoming s frame (began p op to has none want way) =
      let proc = procs p has in
      let range : IsOp op = subst IsWant want (given.wants p (proc_of n p).heard (is.followed p proc).fitting (is.followed p proc).named) in
      starts-kept g n p (begun_at g n op) to (begun-kept n.desk p is.desk proc to g.opening op (subst (Agrees n.desk p (proc_of n p).last) none (is.agrees p proc)) range way)
  did-kept what incoming s frame (resumed p o u k accessed to has doing come goes way) =
      let proc = procs p has in
      let agrees = subst (Agrees n.desk p (proc_of n p).last) doing (is.agrees p proc) in
      resumes-kept g n p o to (resumed-kept n.desk p is.desk proc to o.op accessed agrees.1.idle goes way)
  did-kept what incoming s frame (served from index m ask answer sender receiver asks answers) =
      subst (λ page. Kept page n.desk.cache.pages n.desk.cache.pages) (sym (served-unused n.desk (looked m.number (last_of (caller_of m) n.side.served)) (caller_of m) m.number ask answer)) (λ used are. are)
  did-kept what incoming s frame (passed_over from index m ask sender receiver asks none) = λ used are. are
  did-kept what incoming s frame (heard from index m o c said to sender receiver asks doing same says way) =
      let proc : IsProc m.proc = (frame.range.proc_low, frame.range.proc_high) in
      let agrees = subst (Agrees n.desk m.proc (proc_of n m.proc).last) doing (is.agrees m.proc proc) in
      heard-kept (Incoming.Frame m) m o c said to refl proc doing agrees.1.0 (subst (λ k. IsBody k m.body) (receiver ∙ sym is.own.node) frame.range.body) same says way
  did-kept what incoming s frame (ignored from index m sender receiver asks) = λ used are. are
  did-kept what incoming s frame (resent p from to index number tick o c has doing same answer) = λ used are. are
  did-kept what incoming s frame (gave_up p from to index number tick o c into has doing same answer fails) =
      let proc = procs p has in
      let agrees = subst (Agrees n.desk p (proc_of n p).last) doing (is.agrees p proc) in
      settles-kept g n p o into c.waiting.number (settled-kept g.opening incoming (proc_of n p).doing c.waiting.number n.desk p o.op into
      (gave_up-turn g.opening incoming (proc_of n p).doing n.desk p is.desk proc c.waiting.number o.op c.ask into agrees.1.0 fails))
  did-kept what incoming s frame (got_ready phase may) = let x = record n { ready = true } in phase-kept (x.ready && others_marked g x) x
  did-kept what incoming s frame (marked from phase tick may) = let x = record n { marks = (from, phase) ∷ n.marks } in phase-kept (x.ready && others_marked g x) x

-- so each step of a node: the page that it uses comes to the front, and all others stay in their order
pub step-kept : (g : Given) (n : NodeState) (what : What) (incoming : Incoming) (dropped : List (ObjectName × ℕ)) (s : Stepped) → IsGiven g → IsNodeOf g n → IsIncoming incoming → AreTasksPlaced n → step_of g n what incoming dropped ≡ Some s → StepKept n s
step-kept g n what incoming dropped s given is frame placed e =
    did-kept g given (given-procs g given.programs) (ticked n incoming) (node-with g n (ticked n incoming) is refl refl is.side is.home is.within.side) placed what incoming s frame (step_of-did g n what incoming dropped s e)
