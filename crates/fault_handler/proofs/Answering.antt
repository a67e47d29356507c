-- What a home's answer says to a load or store that is open, what holds after it, and after a link fault.
use Rattle.std.proofs.Common.{◌≡◌, ℕ, ◌≤◌, nat_lt, Bool, true, false, List, length, Option, Some, None, IfSome, IsSome, refl, sym, ap, subst, ◌∙◌}
use Rattle.std.specs.Prelude.{not, is_some}
use Rattle.std.specs.Option.{ForSome}
use Rattle.std.proofs.lemmas.Option.{same_Some}
use Rattle.uid_names.specs.Names.{ObjectName}
use Rattle.uid_names.specs.declared.limits.TheConstants.{PAGE_BYTES}
use Rattle.uid_names.proofs.Somes.{there_is}
use Rattle.dom_history.specs.declared.op.Op.{Op}
use Rattle.dom_history.specs.declared.op.Op.TheVariants as ops
use Rattle.dom_history.specs.declared.op.Spot.TheVariants.{Of}
use Rattle.page_cache.specs.Caches.{Resident, page_at}
use Rattle.version_stamps.specs.Stamps.{stamp_of}
use Rattle.ring_messages.specs.Bodies.{Ask, Answer, answer_of}
use Rattle.ring_messages.specs.declared.body.Body.{Body}
use Rattle.ring_messages.specs.declared.body.Body.TheVariants as bodies
use Rattle.ring_messages.specs.Ranges.{IsBody}
use Rattle.fault_handler.specs.declared.open_call.OpenCall.{OpenCall}
use Rattle.fault_handler.specs.declared.open_call.OpenCall.TheVariants.{Access}
use Rattle.fault_handler.specs.declared.open_call.OpenCall.TheVariants as calls
use Rattle.fault_handler.specs.declared.tasks.Work.{Work}
use Rattle.fault_handler.specs.declared.tasks.Work.TheVariants.{Load, Store}
use Rattle.fault_handler.specs.declared.tasks.Task.{Task}
use Rattle.fault_handler.specs.declared.transits.Transit.{Transit}
use Rattle.fault_handler.specs.Transits.{is_moving, coming, going}
use Rattle.fault_handler.specs.Tasks.{page_of}
use Rattle.fault_handler.specs.ShownPages.{fresh_page}
use Rattle.fault_handler.specs.Desks.{DeskState, any_writes, open_call_of, task_of, moving_of, base_of}
use Rattle.fault_handler.specs.Changes.{with_raised, with_arrival, with_room_settled, with_sent_again}
use Rattle.fault_handler.specs.Accesses.{page_out}
use Rattle.fault_handler.specs.PageReplies.{PageAnswer, answer_inward, answer_outward, answer_by, page_answer, page_by_stamp, room_taken, room_sent_again, page_came_of, failed_way, access_failed_of}
use Rattle.fault_handler.specs.LockCalls.{LockCall, lock_call, fits_call, fits_by, answers}
use Rattle.fault_handler.specs.Unseen.{fits_way, fits_lock, said_to}
use Rattle.fault_handler.specs.Invariant.{IsProc, IsAllowed, is_access, is_dirty, IsOpenTask, IsDesk}
use Rattle.fault_handler.specs.Conditions.{IsIdle, IsAccessing}
use Rattle.fault_handler.specs.Next.{IsTaskOf, IsCallOf, IsRequest, IsOpen}
use Rattle.fault_handler.proofs.PageLists.{found-uid, found-page}
use Rattle.fault_handler.proofs.MovingOthers.{moving-uid, moving-page}
use Rattle.fault_handler.proofs.KnownKeeps.{IsDesk-with_raised}
use Rattle.fault_handler.proofs.TransitKeeps.{open_task, going-resident, dirty-writes, IsDesk-with_arrival, IsDesk-with_loss, IsDesk-with_room_settled, IsIdle-with_arrival, IsIdle-with_loss, IsIdle-with_room_settled}
use Rattle.fault_handler.proofs.Outcomes.{Holds, each-some}
use Rattle.fault_handler.proofs.Accessing.{IsDoneAfter, stamp-seen, home-kept, home-written, ready-open, page_out-asked, performed-after, page_access-after}

-- a page was sent home to make room for that of this load or store
pub record IsSent (d : DeskState) (p : ℕ) (task : Task) (r : Resident) (stamp : ℕ) : Type 0 where
  pub there : task_of d p ≡ Some task
  pub allowed : IsAllowed d.entries p task
  pub goes : moving_of d p ≡ going r.uid r.page
  pub found : page_at d.cache.pages r.uid r.page ≡ Some r
  pub dirty : is_dirty (page_at d.cache.pages r.uid r.page) ≡ true
  pub least : 1 ≤ stamp

-- the page of this load or store came
pub record IsCome (d : DeskState) (p : ℕ) (task : Task) (stamp : ℕ) (bytes : List ℕ) : Type 0 where
  pub there : task_of d p ≡ Some task
  pub allowed : IsAllowed d.entries p task
  pub comes : moving_of d p ≡ coming task.uid (page_of task)
  pub least : 1 ≤ stamp
  pub whole : length bytes ≡ PAGE_BYTES

-- what is so of a load or store that is open and of what its home's answer says to it
abbrev pub IsSaid : DeskState → ℕ → PageAnswer → Type 0
IsSaid d p (PageAnswer.Came task stamp bytes) = IsCome d p task stamp bytes
IsSaid d p (PageAnswer.Taken task r stamp) = IsSent d p task r stamp
IsSaid d p (PageAnswer.NotTaken task r stamp) = IsSent d p task r stamp

module _ (d : DeskState) (p : ℕ) (is : IsDesk d) (proc : IsProc p) (access : IsAccessing d p) where
  module _ (task : Task) (t : Transit) (there : task_of d p ≡ Some task) (moves : moving_of d p ≡ Some t) (needs : IsOpenTask d.cache.pages d.entries p task t) where
    -- a page that comes is the one that is needed
    pub coming-needed : t.inward ≡ true → moving_of d p ≡ coming task.uid (page_of task)
    coming-needed comes =
        let is_t : is_moving task.uid (page_of task) (Some t) ≡ true = needs.comes comes in
        moves ∙ (λ i. Some (record { uid = moving-uid task.uid (page_of task) t is_t i; page = moving-page task.uid (page_of task) t is_t i; inward = comes i }))

    -- one that goes home is the transit's
    pub going-own : t.inward ≡ false → moving_of d p ≡ going t.uid t.page
    going-own goes = moves ∙ (λ i. Some (record { uid = t.uid; page = t.page; inward = goes i }))

    sent-is : (r : Resident) (stamp : ℕ) → page_at d.cache.pages t.uid t.page ≡ Some r → t.inward ≡ false → 1 ≤ stamp → IsSent d p task r stamp
    sent-is r stamp found goes least =
        let uid : r.uid ≡ t.uid = found-uid d.cache.pages t.uid t.page r found in
        let page : r.page ≡ t.page = found-page d.cache.pages t.uid t.page r found in
        record {
          there = there;
          allowed = needs.allowed;
          goes = rw (uid, page) (going-own goes);
          found = subst (λ (v : ObjectName). page_at d.cache.pages v r.page ≡ Some r) (sym uid) (subst (λ (j : ℕ). page_at d.cache.pages t.uid j ≡ Some r) (sym page) found);
          dirty = rw (uid, page) (needs.goes goes);
          least = least;
        }

    -- what an answer says, by the way of the page
    page-said : (inward : Bool) → t.inward ≡ inward → (stamp : ℕ) (bytes : List ℕ) (a : PageAnswer) → 1 ≤ stamp → length bytes ≡ PAGE_BYTES → answer_by d.cache.pages task t inward (Answer.Page stamp bytes) ≡ Some a → IsSaid d p a
    page-said true comes stamp bytes a least whole said =
        subst (IsSaid d p) (same_Some (PageAnswer.Came task stamp bytes) a said) (record { there = there; allowed = needs.allowed; comes = coming-needed comes; least = least; whole = whole })
    page-said false goes stamp bytes a least whole said = absurd (by_page (page_at d.cache.pages t.uid t.page) said)
      where
        by_page : (o : Option Resident) → answer_outward task o (Answer.Page stamp bytes) ≡ Some a → ⊥
        by_page None h = cc
        by_page (Some r) h = cc

    taken-said : (inward : Bool) → t.inward ≡ inward → (stamp : ℕ) (a : PageAnswer) → 1 ≤ stamp → answer_by d.cache.pages task t inward (Answer.Stored stamp) ≡ Some a → IsSaid d p a
    taken-said true comes stamp a least said = absurd (cc)
    taken-said false goes stamp a least said = by_page (page_at d.cache.pages t.uid t.page) refl said
      where
        by_page : (o : Option Resident) → page_at d.cache.pages t.uid t.page ≡ o → answer_outward task o (Answer.Stored stamp) ≡ Some a → IsSaid d p a
        by_page None found h = absurd (cc)
        by_page (Some r) found h = subst (IsSaid d p) (same_Some (PageAnswer.Taken task r stamp) a h) (sent-is r stamp found goes least)

    not_taken-said : (inward : Bool) → t.inward ≡ inward → (stamp : ℕ) (a : PageAnswer) → 1 ≤ stamp → answer_by d.cache.pages task t inward (Answer.Stale stamp) ≡ Some a → IsSaid d p a
    not_taken-said true comes stamp a least said = absurd (cc)
    not_taken-said false goes stamp a least said = by_page (page_at d.cache.pages t.uid t.page) refl said
      where
        by_page : (o : Option Resident) → page_at d.cache.pages t.uid t.page ≡ o → answer_outward task o (Answer.Stale stamp) ≡ Some a → IsSaid d p a
        by_page None found h = absurd (cc)
        by_page (Some r) found h = subst (IsSaid d p) (same_Some (PageAnswer.NotTaken task r stamp) a h) (sent-is r stamp found goes least)

    -- an answer of another kind says nothing
    other-said : (answer : Answer) (a : PageAnswer) → (answer_inward task answer ≡ None) → ((o : Option Resident) → answer_outward task o answer ≡ None) → page_answer d p answer ≡ Some a → ⊥
    other-said answer a inward outward said = by_way t.inward (rw (there, moves) at said)
      where
        by_way : (b : Bool) → answer_by d.cache.pages task t b answer ≡ Some a → ⊥
        by_way true h = let e : Some a ≡ None = sym h ∙ inward in cc
        by_way false h = let e : Some a ≡ None = sym h ∙ outward (page_at d.cache.pages t.uid t.page) in cc

    -- whether an answer fits, by the way of the page
    fits-by : (answer : Answer) → fits_call d p (open_call_of d p) answer ≡ is_some (answer_by d.cache.pages task t t.inward answer)
    fits-by answer = rw (access, there, moves) refl

    -- the page that goes home is there
    going-there : t.inward ≡ false → (r : Resident) × (page_at d.cache.pages t.uid t.page ≡ Some r)
    going-there goes = there_is (page_at d.cache.pages t.uid t.page) (going-resident d p is proc t.uid t.page (going-own goes)).0

    other-fits : (answer : Answer) → (answer_inward task answer ≡ None) → ((o : Option Resident) → answer_outward task o answer ≡ None) → fits_call d p (open_call_of d p) answer ≡ false
    other-fits answer inward outward = fits-by answer ∙ by_way t.inward
      where
        by_way : (b : Bool) → is_some (answer_by d.cache.pages task t b answer) ≡ false
        by_way true = ap is_some inward
        by_way false = ap is_some (outward (page_at d.cache.pages t.uid t.page))

    no-outward : (answer : Answer) → ((r : Resident) → answer_outward task (Some r) answer ≡ None) → (o : Option Resident) → answer_outward task o answer ≡ None
    no-outward answer none None = refl
    no-outward answer none (Some r) = none r

    answers-open : (body : Body) → answers d p body ≡ fits_way t.inward body
    answers-open (bodies.Page stamp bytes) = fits-by (Answer.Page stamp bytes) ∙ by_way t.inward
      where
        by_way : (b : Bool) → is_some (answer_by d.cache.pages task t b (Answer.Page stamp bytes)) ≡ b
        by_way true = refl
        by_way false = ap is_some (no-outward (Answer.Page stamp bytes) (λ r. refl) (page_at d.cache.pages t.uid t.page))
    answers-open (bodies.Stored stamp) = fits-by (Answer.Stored stamp) ∙ by_way t.inward refl
      where
        by_way : (b : Bool) → t.inward ≡ b → is_some (answer_by d.cache.pages task t b (Answer.Stored stamp)) ≡ not b
        by_way true comes = refl
        by_way false goes = rw ((going-there goes).1) refl
    answers-open (bodies.Stale stamp) = fits-by (Answer.Stale stamp) ∙ by_way t.inward refl
      where
        by_way : (b : Bool) → t.inward ≡ b → is_some (answer_by d.cache.pages task t b (Answer.Stale stamp)) ≡ not b
        by_way true comes = refl
        by_way false goes = rw ((going-there goes).1) refl
    answers-open bodies.NoGrant = other-fits Answer.NoGrant refl (no-outward Answer.NoGrant (λ r. refl))
    answers-open bodies.NoObject = other-fits Answer.NoObject refl (no-outward Answer.NoObject (λ r. refl))
    answers-open (bodies.Granted grant stamp kind room n) = other-fits (Answer.Granted grant stamp kind room n) refl (no-outward (Answer.Granted grant stamp kind room n) (λ r. refl))
    answers-open (bodies.Conflict q m) = other-fits (Answer.Conflict q m) refl (no-outward (Answer.Conflict q m) (λ r. refl))
    answers-open bodies.Done = other-fits Answer.Done refl (no-outward Answer.Done (λ r. refl))
    answers-open (bodies.Made u) = other-fits (Answer.Made u) refl (no-outward (Answer.Made u) (λ r. refl))
    answers-open bodies.NoSpace = other-fits Answer.NoSpace refl (no-outward Answer.NoSpace (λ r. refl))
    answers-open (bodies.Listed rows more) = other-fits (Answer.Listed rows more) refl (no-outward (Answer.Listed rows more) (λ r. refl))
    answers-open body = refl

    -- what a body of an answer says to it
    said-is : (to : ℕ) (body : Body) (a : PageAnswer) → IsBody to body → said_to d p (answer_of body) ≡ Some a → IsSaid d p a
    said-is to (bodies.Page stamp bytes) a range said = page-said t.inward refl stamp bytes a range.0 range.1 (rw (there, moves) at said)
    said-is to (bodies.Stored stamp) a range said = taken-said t.inward refl stamp a range (rw (there, moves) at said)
    said-is to (bodies.Stale stamp) a range said = not_taken-said t.inward refl stamp a range (rw (there, moves) at said)
    said-is to bodies.NoGrant a range said = absurd (other-said Answer.NoGrant a refl (no-outward Answer.NoGrant (λ r. refl)) said)
    said-is to bodies.NoObject a range said = absurd (other-said Answer.NoObject a refl (no-outward Answer.NoObject (λ r. refl)) said)
    said-is to (bodies.Granted grant stamp kind room n) a range said =
        absurd (other-said (Answer.Granted grant stamp kind room n) a refl (no-outward (Answer.Granted grant stamp kind room n) (λ r. refl)) said)
    said-is to (bodies.Conflict q m) a range said = absurd (other-said (Answer.Conflict q m) a refl (no-outward (Answer.Conflict q m) (λ r. refl)) said)
    said-is to bodies.Done a range said = absurd (other-said Answer.Done a refl (no-outward Answer.Done (λ r. refl)) said)
    said-is to (bodies.Made u) a range said = absurd (other-said (Answer.Made u) a refl (no-outward (Answer.Made u) (λ r. refl)) said)
    said-is to bodies.NoSpace a range said = absurd (other-said Answer.NoSpace a refl (no-outward Answer.NoSpace (λ r. refl)) said)
    said-is to (bodies.Listed rows more) a range said = absurd (other-said (Answer.Listed rows more) a refl (no-outward (Answer.Listed rows more) (λ r. refl)) said)
    said-is to body a range said = absurd (cc)

  -- what an answer says is so of the load or store that is open
  pub page_answer-said : (to : ℕ) (body : Body) (a : PageAnswer) → IsBody to body → said_to d p (answer_of body) ≡ Some a → IsSaid d p a
  page_answer-said to body a range said = let found = open_task d p is proc access in said-is found.0 found.1 found.2 found.3 found.4 to body a range said

  -- a body answers its call by the way of the page that it moves
  pub answers-access : (t : Transit) (body : Body) → moving_of d p ≡ Some t → answers d p body ≡ fits_way t.inward body
  answers-access t body moves =
      let found = open_task d p is proc access in
      let same : found.1 ≡ t = same_Some found.1 t (sym found.3 ∙ moves) in
      answers-open found.0 found.1 found.2 found.3 found.4 body ∙ ap (λ (x : Transit). fits_way x.inward body) same

  -- it says something, and a page is moved, where a body answers the call
  pub moves-one : moving_of d p ≡ None → ⊥
  moves-one none = let found = open_task d p is proc access in let e : Some found.1 ≡ None = sym found.3 ∙ none in cc

  -- the operation is that of the load or store
  module _ (op : Op) (of : IsOpen d p op) where
    task-op : (task : Task) → task_of d p ≡ Some task → IsTaskOf op (Some task)
    task-op task there =
        subst (λ (o : Option Task). IsTaskOf op o) there
        (subst (λ (c : Option OpenCall). IsCallOf op (task_of d p) c) access of)

    page_by_stamp-after : (task : Task) (stamp : ℕ) (bytes : List ℕ) → IsCome d p task stamp bytes → (old : Bool) → IsDoneAfter d.node d.nodes p op (page_by_stamp d p task stamp bytes old)
    page_by_stamp-after task stamp bytes come true = (
      record {
        node = refl;
        nodes = refl;
        asks = (home-kept d p task.uid is proc come.allowed.kept, (refl, come.allowed.range.page));
        ready = ready-open d p access;
        fits = tt;
        next = (of, subst (λ (c : Option OpenCall). IsRequest (moving_of d p) c (Ask.PageIn task.uid (page_of task))) (sym access) come.comes);
      },
      tt,
    )
    page_by_stamp-after task stamp bytes come false =
        let seen : IsSome (stamp_of task.uid d.seen) = is.known.kept p proc task.uid come.allowed.kept in
        let raised_desk = with_raised d task.uid stamp in
        let is_raised : IsDesk raised_desk = IsDesk-with_raised d task.uid stamp is seen come.least in
        let here : moving_of raised_desk p ≡ coming task.uid (page_of task) = come.comes in
        let arrived : IsDesk (with_arrival raised_desk p task.uid (page_of task) bytes) = IsDesk-with_arrival raised_desk p is_raised proc task.uid (page_of task) bytes here come.whole in
        let idle : IsIdle (with_arrival raised_desk p task.uid (page_of task) bytes) p = IsIdle-with_arrival raised_desk p is_raised proc task.uid (page_of task) bytes here in
        performed-after (with_arrival raised_desk p task.uid (page_of task) bytes) p task arrived proc idle come.allowed op (task-op task come.there) task.work (fresh_page task.uid (page_of task) bytes) refl come.whole

    pub sent-seen : (task : Task) (r : Resident) (stamp : ℕ) → IsSent d p task r stamp → IsSome (stamp_of r.uid d.seen)
    sent-seen task r stamp sent = stamp-seen d is r.uid (going-resident d p is proc r.uid r.page sent.goes).1

    room_taken-after : (task : Task) (r : Resident) (stamp : ℕ) → IsSent d p task r stamp → Holds p (IsDoneAfter d.node d.nodes p op) (page_came_of d p (PageAnswer.Taken task r stamp))
    room_taken-after task r stamp sent =
        let settled_desk = with_room_settled d p r.uid r.page true in
        let is_settled : IsDesk settled_desk = IsDesk-with_room_settled d p is proc r.uid r.page true sent.goes in
        let idle_settled : IsIdle settled_desk p = IsIdle-with_room_settled d p is proc r.uid r.page true access in
        let is_raised : IsDesk (room_taken d p r stamp) = IsDesk-with_raised settled_desk r.uid stamp is_settled (sent-seen task r stamp sent) sent.least in
        let idle : IsIdle (room_taken d p r stamp) p = record { no_call = idle_settled.no_call; no_page = idle_settled.no_page; keeping = idle_settled.keeping } in
        page_access-after (room_taken d p r stamp) p task is_raised proc idle sent.allowed op (task-op task sent.there)

    room_sent_again-after : (task : Task) (r : Resident) (stamp : ℕ) → IsSent d p task r stamp → IsDoneAfter d.node d.nodes p op (room_sent_again (with_raised d r.uid stamp) r)
    room_sent_again-after task r stamp sent =
        let is_raised : IsDesk (with_raised d r.uid stamp) = IsDesk-with_raised d r.uid stamp is (sent-seen task r stamp sent) sent.least in
        let writes : any_writes d.entries r.uid ≡ true = dirty-writes d p is proc r.uid r.page sent.dirty in
        let shown = rw sent.found at (is.pages.each r.uid r.page) in (
          record {
            node = refl;
            nodes = refl;
            asks = (home-written d r.uid is writes, page_out-asked (with_raised d r.uid stamp) is_raised r.uid r.page r.bytes shown.page shown.bytes writes);
            ready = ready-open (with_sent_again (with_raised d r.uid stamp) r.uid r.page) p access;
            fits = tt;
            next = (of, subst (λ (c : Option OpenCall). IsRequest (moving_of d p) c (page_out (with_raised d r.uid stamp) r.uid r.page r.bytes)) (sym access) sent.goes);
          },
          tt,
        )

    -- what holds after the answer
    pub page_came_of-after : (a : PageAnswer) → IsSaid d p a → Holds p (IsDoneAfter d.node d.nodes p op) (page_came_of d p a)
    page_came_of-after (PageAnswer.Came task stamp bytes) said = page_by_stamp-after task stamp bytes said (nat_lt stamp (base_of d.seen task.uid))
    page_came_of-after (PageAnswer.Taken task r stamp) said = room_taken-after task r stamp said
    page_came_of-after (PageAnswer.NotTaken task r stamp) said = room_sent_again-after task r stamp said

  -- a link fault leaves a desk, and the process may go on
  failed_way-after : (t : Transit) (inward : Bool) → t.inward ≡ inward → moving_of d p ≡ Some t → IsDesk (failed_way d p t inward) × IsIdle (failed_way d p t inward) p
  failed_way-after t true comes moves =
      let here : moving_of d p ≡ coming t.uid t.page = moves ∙ (λ i. Some (record { uid = t.uid; page = t.page; inward = comes i })) in
      (IsDesk-with_loss d p is proc t.uid t.page here, IsIdle-with_loss d p is proc t.uid t.page here)
  failed_way-after t false goes moves =
      let here : moving_of d p ≡ going t.uid t.page = moves ∙ (λ i. Some (record { uid = t.uid; page = t.page; inward = goes i })) in
      (IsDesk-with_room_settled d p is proc t.uid t.page false here, IsIdle-with_room_settled d p is proc t.uid t.page false access)

  pub access_failed_of-after : (t : Transit) → moving_of d p ≡ Some t → IsDesk (access_failed_of d p t) × IsIdle (access_failed_of d p t) p
  access_failed_of-after t moves = failed_way-after t t.inward refl moves

  -- some operation is open: that load or store
  pub some-op : (op : Op) × IsOpen d p op
  some-op =
      let found = open_task d p is proc access in
      let op = op_of found.0.uid found.0.offset found.0.work in
      (op, subst (λ (c : Option OpenCall). IsCallOf op (task_of d p) c) (sym access) (subst (λ (o : Option Task). IsTaskOf op o) (sym found.2) (is_op found.0 found.0.work refl)))
    where
      op_of : ObjectName → ℕ → Work → Op
      op_of u offset (Load count) = ops.Load (Of u offset) count
      op_of u offset (Store bytes) = ops.Store (Of u offset) bytes

      is_op : (task : Task) (work : Work) → task.work ≡ work → IsTaskOf (op_of task.uid task.offset work) (Some task)
      is_op task (Load count) same = ((refl, refl), same)
      is_op task (Store bytes) same = ((refl, refl), same)

-- a body that answers the call of a load or store says something
pub said-some : (d : DeskState) (p : ℕ) (body : Body) → IsAccessing d p → answers d p body ≡ true → IsSome (said_to d p (answer_of body))
said-some d p body access fits = by_answer (answer_of body) fits
  where
    by_answer : (o : Option Answer) → fits_by d p o ≡ true → IsSome (said_to d p o)
    by_answer None h = absurd (cc)
    by_answer (Some answer) h = rw access at h

-- what it says
pub said-each : (d : DeskState) (p : ℕ) (o : Option Answer) (P : PageAnswer → Type 0) → IfSome (said_to d p o) P → ForSome o (λ answer. ForSome (page_answer d p answer) P)
said-each d p None P holds answer is = absurd (cc)
said-each d p (Some x) P holds answer is = let same : x ≡ answer = cc in subst (λ (a : Answer). ForSome (page_answer d p a) P) same (each-some (page_answer d p x) P holds)

-- a body answers the call of a lock, an unlock or a removal by that call alone
pub answers-lock : (d : DeskState) (p : ℕ) (call : OpenCall) (body : Body) → open_call_of d p ≡ Some call → is_access (Some call) ≡ false → fits_lock (lock_call call) (answer_of body) ≡ answers d p body
answers-lock d p call body open_is other = by_answer (answer_of body)
  where
    by_call : (x : OpenCall) (answer : Answer) → is_access (Some x) ≡ false → fits_lock (lock_call x) (Some answer) ≡ fits_call d p (Some x) answer
    by_call Access answer h = absurd (cc)
    by_call (calls.Lock u m) answer h = refl
    by_call (calls.PageOut u k delete) answer h = refl
    by_call (calls.AttrOut u n delete) answer h = refl
    by_call (calls.Unlock u) answer h = refl
    by_call (calls.Remove u) answer h = refl

    none : (x : Option LockCall) → fits_lock x None ≡ false
    none None = refl
    none (Some x) = refl

    by_answer : (o : Option Answer) → fits_lock (lock_call call) o ≡ fits_by d p o
    by_answer None = none (lock_call call)
    by_answer (Some answer) = by_call call answer other ∙ ap (λ (c : Option OpenCall). fits_call d p c answer) (sym open_is)
