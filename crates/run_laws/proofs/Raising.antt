-- What an answer to a page or a length that was sent home leaves of its desk: the stamp that it tells is seen then, and what was sent is
-- settled once.
use Rattle.std.proofs.Common.{◌≡◌, ℕ, ◌+◌, ◌≤◌, Bool, true, false, Option, Some, None, ◌⊎◌, inl, inr, refl, sym, ap, subst, ◌∙◌, arith}
use Rattle.std.specs.Prelude.{nat_lt}
use Rattle.std.specs.Option.{option_map}
use Rattle.std.proofs.lemmas.Option.{same_Some}
use Rattle.uid_names.specs.Steps.{◌>>=◌}
use Rattle.uid_names.specs.Names.{ObjectName}
use Rattle.dom_history.specs.declared.op.Op.{Op}
use Rattle.dom_history.specs.declared.op.Op.TheVariants as ops
use Rattle.dom_history.specs.declared.event.What.{What}
use Rattle.page_cache.specs.Caches.{Resident, page_at, free_count}
use Rattle.page_cache.specs.Numbers.{dirty_page}
use Rattle.ring_messages.specs.Bodies.{Ask, Answer, ask_of, body_of_answer}
use Rattle.ring_messages.specs.Frames.{Message}
use Rattle.ring_messages.proofs.Asking.{answers-back, answers-ask-nothing}
use Rattle.fault_handler.specs.declared.tasks.Work.{Work}
use Rattle.fault_handler.specs.declared.tasks.Work.TheVariants.{Load, Store}
use Rattle.fault_handler.specs.declared.tasks.Task.{Task}
use Rattle.fault_handler.specs.declared.open_call.OpenCall.{OpenCall}
use Rattle.fault_handler.specs.declared.open_call.OpenCall.TheVariants as calls
use Rattle.fault_handler.specs.Lengths.{known_of, changed_length}
use Rattle.fault_handler.specs.ShownPages.{changed_page, as_sent}
use Rattle.fault_handler.specs.Tasks.{page_of}
use Rattle.fault_handler.specs.Victims.{Victim}
use Rattle.fault_handler.specs.Desks.{DeskState, task_of, open_call_of, other_transit, others_fetch}
use Rattle.fault_handler.specs.Accesses.{performed, frame_by, missed_by, page_by, page_access}
use Rattle.fault_handler.specs.Changes.{with_raised, with_page_done, with_length_done, with_call}
use Rattle.fault_handler.specs.PageReplies.{PageAnswer, room_taken, page_came_of}
use Rattle.fault_handler.specs.LockCalls.{LockCall, LockAnswer, lock_call, open_call}
use Rattle.fault_handler.specs.Next.{IsCallOf}
use Rattle.fault_handler.specs.Outcomes.{Turn, Moved}
use Rattle.lock_validate.specs.Releases.{length_first, page_first, transit_first, release_of}
use Rattle.lock_validate.specs.Causes.{Cause, MayCome, IsOf}
use Rattle.node_runs.specs.Setups.{Given}
use Rattle.node_runs.specs.NodeStates.{Asked, Await, BegunOp, OpenOp, NodeState, proc_of}
use Rattle.node_runs.specs.Operations.{Said, said_to_lock, said_to_call, said_by, said_of, answered}
use Rattle.node_runs.specs.Incomings.{Incoming}
use Rattle.node_runs.specs.Outcomes.{Stage, Stepped, turned, moved as moved_by_op}
use Rattle.node_runs.specs.Dones.{Did, asking, paused, finished, began, resumed, served, passed_over, heard, ignored, resent, gave_up, got_ready, marked}
use Rattle.node_runs.specs.Doings.{stage_of}
use Rattle.node_runs.specs.Rooms.{MayMove}
use Rattle.run_laws.specs.DeskSteps.{Takes, IsTaken, doing_after}

-- a desk on which a release goes on: a page may be sent home, and nothing else changes of pages, lengths and stamps
pub record IsSettledTo (g e : DeskState) : Type 0 where
  pub seen : e.seen ≡ g.seen
  pub known : e.known ≡ g.known
  pub pages : (e.cache.pages ≡ g.cache.pages) ⊎ ((u : ObjectName) × (k : ℕ) × (e.cache.pages ≡ changed_page u k as_sent g.cache.pages))

abbrev pub CameTo : DeskState → ℕ → Cause → DeskState → Type 0
CameTo d p (Cause.PageCame (PageAnswer.Taken task r stamp)) e = e.seen ≡ (with_raised d r.uid stamp).seen
CameTo d p (Cause.AnswerCame (LockAnswer.PageSettled u delete taken stamp)) e = IsSettledTo (with_raised (with_page_done (with_call d p None) p taken) u stamp) e
CameTo d p (Cause.AnswerCame (LockAnswer.LengthSettled u n delete taken stamp)) e = IsSettledTo (with_raised (with_length_done (with_call d p None) u n taken) u stamp) e
CameTo d p c e = Unit {0}

module _ (g : DeskState) (p : ℕ) (u : ObjectName) (delete : Bool) where
  length-to : (o : Option ℕ) → IsSettledTo g (length_first g p u delete o).desk
  length-to (Some n) = record { seen = refl; known = refl; pages = inl refl }
  length-to None = record { seen = refl; known = refl; pages = inl refl }

  page-to : (o : Option ℕ) → IsSettledTo g (page_first g p u delete o).desk
  page-to (Some k) = record { seen = refl; known = refl; pages = inr (u, k, refl) }
  page-to None = length-to (changed_length (known_of u g.known))

  transit-to : (o : Option ℕ) → IsSettledTo g (transit_first g p u delete o).desk
  transit-to (Some k) = record { seen = refl; known = refl; pages = inl refl }
  transit-to None = page-to (dirty_page g.cache.pages u)

  release-to : IsSettledTo g (release_of g p u delete).desk
  release-to = transit-to (other_transit g.moving p u)

-- a load or store sees no stamp
module _ (g : DeskState) (p : ℕ) (task : Task) (to : Moved) where
  performed-seen : (work : Work) (r : Resident) → (performed g task work r).desk.seen ≡ g.seen
  performed-seen (Load count) r = refl
  performed-seen (Store bytes) r = refl

  frame-seen : (b : Bool) → MayMove p (frame_by g p task b) to → to.desk.seen ≡ g.seen
  frame-seen true may = ap (λ (m : Moved). m.desk.seen) may
  frame-seen false (Victim.Drops w k, can, may) = ap (λ (m : Moved). m.desk.seen) may
  frame-seen false (Victim.SendsHome r, can, may) = ap (λ (m : Moved). m.desk.seen) may

  missed-seen : (b : Bool) → MayMove p (missed_by g p task b) to → to.desk.seen ≡ g.seen
  missed-seen true may = ap (λ (m : Moved). m.desk.seen) may
  missed-seen false may = frame-seen (nat_lt 0 (free_count g.cache)) may

  page-seen : (o : Option Resident) → MayMove p (page_by g p task o) to → to.desk.seen ≡ g.seen
  page-seen (Some r) may = ap (λ (m : Moved). m.desk.seen) may ∙ performed-seen task.work r
  page-seen None may = missed-seen (others_fetch g.moving p task.uid (page_of task)) may

  access-seen : MayMove p (page_access g p task) to → to.desk.seen ≡ g.seen
  access-seen may = page-seen (page_at g.cache.pages task.uid (page_of task)) may

-- what comes of what is said
page-came : (d : DeskState) (p : ℕ) (a : PageAnswer) (to : Moved) → MayMove p (page_came_of d p a) to → CameTo d p (Cause.PageCame a) to.desk
page-came d p (PageAnswer.Taken task r stamp) to may = access-seen (room_taken d p r stamp) p task to may
page-came d p (PageAnswer.Came task stamp bytes) to may = tt
page-came d p (PageAnswer.NotTaken task r stamp) to may = tt

lock-came : (d : DeskState) (p : ℕ) (a : LockAnswer) (to : Moved) → MayMove p (answered d p (Said.ToLock a)) to → CameTo d p (Cause.AnswerCame a) to.desk
lock-came d p (LockAnswer.PageSettled u delete taken stamp) to may =
    let g = with_raised (with_page_done (with_call d p None) p taken) u stamp in
    subst (λ (m : Moved). IsSettledTo g m.desk) (sym may) (release-to g p u delete)
lock-came d p (LockAnswer.LengthSettled u n delete taken stamp) to may =
    let g = with_raised (with_length_done (with_call d p None) u n taken) u stamp in
    subst (λ (m : Moved). IsSettledTo g m.desk) (sym may) (release-to g p u delete)
lock-came d p (LockAnswer.Granted u m grant stamp room n) to may = tt
lock-came d p (LockAnswer.Refused q held) to may = tt
lock-came d p (LockAnswer.Gone u) to may = tt
lock-came d p (LockAnswer.Released u) to may = tt
lock-came d p (LockAnswer.Removed u) to may = tt

-- an operation that has an open call at the desk is none of which the desk knows nothing
module _ (d : DeskState) (p : ℕ) (x : Answer) where
  new-none : {X : Type 0} (home : ℕ) (kind : _) (room : ℕ) (call : OpenCall) → IsCallOf (ops.New home kind room) (task_of d p) (Some call) → X
  new-none home kind room calls.Access of = absurd of
  new-none home kind room (calls.Lock u m) of = absurd (cc)
  new-none home kind room (calls.PageOut u k true) of = absurd (cc)
  new-none home kind room (calls.PageOut u k false) of = absurd (cc)
  new-none home kind room (calls.AttrOut u n true) of = absurd (cc)
  new-none home kind room (calls.AttrOut u n false) of = absurd (cc)
  new-none home kind room (calls.Unlock u) of = absurd (cc)
  new-none home kind room (calls.Remove u) of = absurd (cc)

  list-none : {X : Type 0} (home : ℕ) (from : _) (call : OpenCall) → IsCallOf (ops.List home from) (task_of d p) (Some call) → X
  list-none home from calls.Access of = absurd of
  list-none home from (calls.Lock u m) of = absurd (cc)
  list-none home from (calls.PageOut u k true) of = absurd (cc)
  list-none home from (calls.PageOut u k false) of = absurd (cc)
  list-none home from (calls.AttrOut u n true) of = absurd (cc)
  list-none home from (calls.AttrOut u n false) of = absurd (cc)
  list-none home from (calls.Unlock u) of = absurd (cc)
  list-none home from (calls.Remove u) of = absurd (cc)

  said-is : (op : Op) (call : OpenCall) → open_call_of d p ≡ Some call → IsCallOf op (task_of d p) (Some call) → said_by d p op x ≡ said_to_call d p x call
  said-is (ops.New home kind room) call opened of = new-none home kind room call of
  said-is (ops.List home from) call opened of = list-none home from call of
  said-is (ops.Lock u m) call opened of = ap (λ o. o >>= said_to_call d p x) opened
  said-is (ops.Unlock u) call opened of = ap (λ o. o >>= said_to_call d p x) opened
  said-is (ops.Delete u) call opened of = ap (λ o. o >>= said_to_call d p x) opened
  said-is (ops.Load spot count) call opened of = ap (λ o. o >>= said_to_call d p x) opened
  said-is (ops.Store spot bytes) call opened of = ap (λ o. o >>= said_to_call d p x) opened
  said-is (ops.Length u) call opened of = ap (λ o. o >>= said_to_call d p x) opened
  said-is (ops.Map u) call opened of = ap (λ o. o >>= said_to_call d p x) opened
  said-is (ops.Unmap u) call opened of = ap (λ o. o >>= said_to_call d p x) opened

  lock-back : (call : LockCall) → lock_call (open_call call) ≡ Some call
  lock-back (LockCall.Lock u m) = refl
  lock-back (LockCall.PageOut u k delete) = refl
  lock-back (LockCall.AttrOut u n delete) = refl
  lock-back (LockCall.Unlock u) = refl
  lock-back (LockCall.Remove u) = refl

abbrev await_number : Await → ℕ
await_number (Await.Answer c) = c.waiting.number
await_number (Await.Page w i) = 0

-- the number of the call that is awaited, 0 where it is a page
abbrev pub awaited_number : Option OpenOp → ℕ
awaited_number None = 0
awaited_number (Some r) = await_number r.awaits

module _ (g : Given) (n : NodeState) (p : ℕ) (o : BegunOp) (k : Asked) (doing : (proc_of n p).doing ≡ asking o k) (last : k.waiting.number ≡ (proc_of n p).last) where
  moved-desk : (q : ℕ) (b : BegunOp) (stage : Stage) (to : Moved) → (moved_by_op g n q b stage to).node.desk ≡ to.desk
  moved-desk q b stage to = by to.turn
    where
      by : (turn : Turn) → (turned g (record n { desk = to.desk }) q b stage turn).node.desk ≡ to.desk
      by (Turn.Ends reply) = refl
      by (Turn.Asks home ask) = refl
      by (Turn.Waits w i) = refl

  abbrev open_began : Option OpenOp → BegunOp
  open_began None = o
  open_began (Some r) = r.began

  -- after an answer the process awaits something else
  goes-on : {X : Type 0} (turn : Turn) → 1 ≤ (proc_of n p).last → doing_after o (proc_of n p) turn ≡ asking o k → X
  goes-on (Turn.Ends reply) least same = absurd (cc)
  goes-on (Turn.Asks home ask) least same = absurd (let e : (proc_of n p).last + 1 ≡ k.waiting.number = ap awaited_number same in omega (arith, e, last))
  goes-on (Turn.Waits w i) least same = absurd (let e : 0 ≡ k.waiting.number = ap awaited_number same in omega (arith, e, last, least))

  -- what the answer said
  came-said : (a : PageAnswer) (may : MayCome n.desk p (Cause.PageCame a)) → IsOf n.desk p (Cause.PageCame a) o.op → (said : Said) → said_by n.desk p o.op may.answer ≡ Some said → said ≡ Said.ToAccess a
  came-said a may of said says = same_Some said (Said.ToAccess a)
      (sym says ∙ (said-is n.desk p may.answer o.op calls.Access may.accessing (subst (IsCallOf o.op (task_of n.desk p)) may.accessing of) ∙ ap (option_map Said.ToAccess) may.says))

  lock-said : (a : LockAnswer) (may : MayCome n.desk p (Cause.AnswerCame a)) → IsOf n.desk p (Cause.AnswerCame a) o.op → (said : Said) → said_by n.desk p o.op may.answer ≡ Some said → said ≡ Said.ToLock a
  lock-said a may of said says = same_Some said (Said.ToLock a)
      (sym says ∙ (said-is n.desk p may.answer o.op (open_call may.call) may.opened (subst (IsCallOf o.op (task_of n.desk p)) may.opened of)
      ∙ (ap (said_to_lock n.desk p may.answer) (lock-back n.desk p may.answer may.call) ∙ ap (option_map Said.ToLock) may.says)))

  -- what comes of an answer that is taken
  module _ (x : Answer) (Q : DeskState → Type 0) (by_said : (said : Said) → said_by n.desk p o.op x ≡ Some said → (to : Moved) → MayMove p (answered n.desk p said) to → Q to.desk) (least : 1 ≤ (proc_of n p).last) (turn : Turn) where
    heard-case : (m : Message) (b : BegunOp) (c : Asked) (said : Said) (to : Moved) → m.proc ≡ p → m.body ≡ body_of_answer x → (proc_of n m.proc).doing ≡ asking b c → said_of n.desk m.proc b.op m.body ≡ Some said → MayMove m.proc (answered n.desk m.proc said) to → Q to.desk
    heard-case m b c said to own body is says way =
        let same : asking b c ≡ asking o k = sym (subst (λ q. (proc_of n q).doing ≡ asking b c) own is) ∙ doing in
        let op : b ≡ o = ap open_began same in
        let found : said_by n.desk p o.op x ≡ Some said =
        sym (ap (λ y. y >>= said_by n.desk p o.op) (answers-back x)) ∙ subst (λ y. said_of n.desk p y.op (body_of_answer x) ≡ Some said) op (subst (λ y. said_of n.desk p b.op y ≡ Some said) body (subst (λ q. said_of n.desk q b.op m.body ≡ Some said) own says)) in
        by_said said found to (subst (λ q. MayMove q (answered n.desk q said) to) own way)

    not-asked : {X : Type 0} (m : Message) (ask : Ask) → m.body ≡ body_of_answer x → ask_of m.body ≡ Some ask → X
    not-asked m ask body asks = absurd (let e : None ≡ Some ask = sym (ap ask_of body ∙ answers-ask-nothing x) ∙ asks in cc)

    did-case : (what : What) (incoming : Incoming) (s : Stepped) → Takes incoming p (proc_of n p).doing x → (proc_of s.node p).doing ≡ doing_after o (proc_of n p) turn → Did g n what incoming s → Q s.node.desk
    did-case what incoming s taken after (heard from index m b c said to sender receiver asks is same says way) =
        let frame : m ≡ taken.frame = cc in
        subst Q (sym (moved-desk m.proc b (stage_of m.number said) to)) (heard-case m b c said to (ap (λ (f : Message). f.proc) frame ∙ taken.proc) (ap (λ (f : Message). f.body) frame ∙ taken.body) is says way)
    did-case what incoming s taken after (served from index m ask answer sender receiver asks is) = let frame : m ≡ taken.frame = cc in not-asked m ask (ap (λ (f : Message). f.body) frame ∙ taken.body) asks
    did-case what incoming s taken after (passed_over from index m ask sender receiver asks is) = let frame : m ≡ taken.frame = cc in not-asked m ask (ap (λ (f : Message). f.body) frame ∙ taken.body) asks
    did-case what incoming s taken after (ignored from index m sender receiver asks) = goes-on turn least (sym after ∙ doing)
    did-case what incoming s taken after (paused q has none is) = absurd (let e = taken.received in cc)
    did-case what incoming s taken after (finished q has none is) = absurd (let e = taken.received in cc)
    did-case what incoming s taken after (began q op to has none is way) = absurd (let e = taken.received in cc)
    did-case what incoming s taken after (resumed q b u i accessed to has is come goes way) = absurd (let e = taken.received in cc)
    did-case what incoming s taken after (resent q from to index number tick b c has is same answer) = absurd (let e = taken.received in cc)
    did-case what incoming s taken after (gave_up q from to index number tick b c into has is same answer fails) = absurd (let e = taken.received in cc)
    did-case what incoming s taken after (got_ready phase can) = absurd (let e = taken.received in cc)
    did-case what incoming s taken after (marked from phase tick can) = absurd (let e = taken.received in cc)

  -- so what is so of each cause
  pub came-to : (what : What) (incoming : Incoming) (s : Stepped) → Did g n what incoming s → 1 ≤ (proc_of n p).last → (turn : Turn) → (proc_of s.node p).doing ≡ doing_after o (proc_of n p) turn → (c : Cause) (may : MayCome n.desk p c) → IsOf n.desk p c o.op
      → IsTaken incoming n.desk p (proc_of n p).doing c may → CameTo n.desk p c s.node.desk
  came-to what incoming s did least turn after (Cause.PageCame a) may of taken =
      did-case may.answer (CameTo n.desk p (Cause.PageCame a)) (λ said says to way. page-came n.desk p a to (subst (λ y. MayMove p (answered n.desk p y) to) (came-said a may of said says) way)) least turn what incoming s taken after did
  came-to what incoming s did least turn after (Cause.AnswerCame a) may of taken =
      did-case may.answer (CameTo n.desk p (Cause.AnswerCame a)) (λ said says to way. lock-came n.desk p a to (subst (λ y. MayMove p (answered n.desk p y) to) (lock-said a may of said says) way)) least turn what incoming s taken after did
  came-to what incoming s did least turn after (Cause.Accesses access) may of taken = tt
  came-to what incoming s did least turn after (Cause.Locks u m) may of taken = tt
  came-to what incoming s did least turn after (Cause.Releases delete u) may of taken = tt
  came-to what incoming s did least turn after (Cause.AccessFailed t) may of taken = tt
  came-to what incoming s did least turn after (Cause.CallFailed call) may of taken = tt
