-- What a load or store that goes on with its page answers, where what its desk has is what one store has.
use Rattle.std.proofs.Common.{◌≡◌, ℕ, ◌+◌, ◌*◌, ◌≤◌, true, false, List, length, take, drop, Option, Some, None, IfSome, inl, refl, sym, ap, subst, ◌∙◌, arith}
use Rattle.std.specs.Prelude.{nat_lt}
use Rattle.std.specs.Option.{option_map}
use Rattle.std.proofs.lemmas.Bool.Decides.{nat_tests}
use Rattle.std.proofs.lemmas.Option.{same_Some}
use Rattle.uid_names.specs.Names.{ProcName}
use Rattle.uid_names.specs.declared.limits.TheConstants.{PAGE_BYTES}
use Rattle.uid_names.proofs.Passed.{left-true}
use Rattle.dom_history.specs.declared.op.Op.{Op}
use Rattle.dom_history.specs.declared.op.Op.TheVariants as ops
use Rattle.dom_history.specs.declared.op.Reply.{Reply}
use Rattle.dom_history.specs.declared.op.Reply.TheVariants as replies
use Rattle.dom_history.specs.declared.op.Spot.{Spot}
use Rattle.dom_history.specs.Locks.{state, is_held}
use Rattle.dom_history.specs.Bytes.{bytes_from, length_of}
use Rattle.dom_history.specs.Objects.{room_of}
use Rattle.dom_history.specs.Replies.{Before, may_write, load_reply, store_reply}
use Rattle.dom_history.specs.Legal.{IsAllowed}
use Rattle.page_cache.specs.Caches.{Resident, page_at}
use Rattle.fault_handler.specs.declared.tasks.Work.TheVariants.{Load, Store}
use Rattle.fault_handler.specs.declared.tasks.Task.{Task}
use Rattle.fault_handler.specs.Lengths as known
use Rattle.fault_handler.specs.Lengths.{known_of}
use Rattle.fault_handler.specs.Tasks.{page_of, start_of, size_of}
use Rattle.fault_handler.specs.Desks.{DeskState, entry_at, state_of, task_of, moving_of, open_call_of}
use Rattle.fault_handler.specs.Accesses.{target_of}
use Rattle.fault_handler.specs.Outcomes.{Turn}
use Rattle.fault_handler.specs.PageReplies.{PageAnswer}
use Rattle.fault_handler.specs.Invariant.{IsProc, IsDesk, IsAllowed as IsAllowedTask, MayWork, is_access}
use Rattle.fault_handler.specs.Next.{IsTaskOf, IsCallOf}
use Rattle.fault_handler.proofs.MovingOthers.{FitsOpen-task}
use Rattle.lock_validate.specs.Causes.{Cause, IsPageAnswer, IsOf}
use Rattle.lock_validate.specs.Loading.{IsTaskIn}
use Rattle.lock_validate.specs.Refusals.{Refuses}
use Rattle.lock_validate.specs.Turns.{Says}
use Rattle.node_runs.specs.NodeStates.{BegunOp, OpenOp}
use Rattle.run_laws.specs.OpenTasks.{IsWithin, IsAtSpot, IsPlacedAt, IsTaskWithin}
use Rattle.run_laws.proofs.OpenTasks.{open_task_of, answer-task}
use Rattle.run_laws.specs.Targets.{target_at}
use Rattle.run_laws.proofs.PartBytes.{in-page}
use Rattle.run_laws.proofs.DeskTurns.{IsLike, load-done, store-done}

not-past : (n m : ℕ) → n ≤ m → nat_lt m n ≡ false
not-past n m le = grind (arith, nat_tests, le)

module _ (b : Before) (name : ProcName) (d : DeskState) (p : ℕ) (like : IsLike b name d p) (task : Task) (allowed : IsAllowedTask d.entries p task) (within : IsTaskWithin d.known task) where
  held : is_held (state task.uid b.told) ≡ true
  held = ap is_held (like.states task.uid) ∙ left-true (is_held (state_of d p task.uid)) _ allowed.kept

  -- a load
  module _ (r : Resident) (count : ℕ) (work : task.work ≡ Load count) where
    abbrev IsPage : Type 0
    IsPage = r.bytes ≡ bytes_from b.opening b.past task.uid (PAGE_BYTES * page_of task) PAGE_BYTES

    load-bytes : (spot : Spot) → IsPage → target_of d p spot ≡ Some (task.uid, task.offset) → IsAllowed b name (ops.Load spot count) (replies.Bytes (take count (drop (start_of task) r.bytes)))
    load-bytes spot page at =
        let ends : task.offset + count ≤ known.length_of (known_of task.uid d.known) = subst (IsWithin (known_of task.uid d.known) task.offset) work within in
        let size = like.lengths task.uid allowed.kept in
        let past : nat_lt (length_of b.opening b.past task.uid) (task.offset + count) ≡ false = ap (λ k. nat_lt k (task.offset + count)) size ∙ not-past (task.offset + count) (known.length_of (known_of task.uid d.known)) ends in
        let fits : start_of task + count ≤ PAGE_BYTES = subst (λ w. start_of task + size_of w ≤ PAGE_BYTES) work allowed.range.within in
        inl (ap replies.Bytes (in-page b.opening b.past task.uid task.offset count r.bytes page fits)
        ∙ sym (ap (λ t. load_reply b t count) (like.targets spot ∙ ap (option_map target_at) at) ∙ load-done b name (target_at (task.uid, task.offset)) count held past))

    pub loaded : (op : Op) → IsTaskOf op (Some task) → IsAtSpot d p op task → ((spot : Spot) (n : ℕ) → op ≡ ops.Load spot n → IsPage) → IsAllowed b name op (replies.Bytes (take count (drop (start_of task) r.bytes)))
    loaded (ops.Load spot n) of at page = let same : count ≡ n = let e = sym work ∙ of.1 in cc in subst (λ k. IsAllowed b name (ops.Load spot k) (replies.Bytes (take count (drop (start_of task) r.bytes)))) same (load-bytes spot (page spot n refl) at)
    loaded (ops.Store spot bytes) of at page = absurd (let e = sym work ∙ of.1 in cc)
    loaded (ops.New home kind room) of at page = absurd of
    loaded (ops.Lock u m) of at page = absurd of
    loaded (ops.Unlock u) of at page = absurd of
    loaded (ops.Delete u) of at page = absurd of
    loaded (ops.Length u) of at page = absurd of
    loaded (ops.Map u) of at page = absurd of
    loaded (ops.Unmap u) of at page = absurd of
    loaded (ops.List home after) of at page = absurd of

  -- a store
  module _ (bytes : List ℕ) (work : task.work ≡ Store bytes) where
    store-fine : (spot : Spot) → target_of d p spot ≡ Some (task.uid, task.offset) → IsAllowed b name (ops.Store spot bytes) replies.Fine
    store-fine spot at =
        let ends : task.offset + length bytes ≤ PAGE_BYTES * known.room_of (known_of task.uid d.known) = subst (IsWithin (known_of task.uid d.known) task.offset) work within in
        let room = like.rooms task.uid allowed.kept in
        let past : nat_lt (PAGE_BYTES * room_of b.opening b.past task.uid) (task.offset + length bytes) ≡ false = ap (λ k. nat_lt (PAGE_BYTES * k) (task.offset + length bytes)) room ∙ not-past (task.offset + length bytes) (PAGE_BYTES * known.room_of (known_of task.uid d.known)) ends in
        let writes : may_write (state task.uid b.told) ≡ true = ap may_write (like.states task.uid) ∙ left-true (may_write (state_of d p task.uid)) _ (subst (λ w. MayWork w (entry_at d.entries p task.uid)) work allowed.mode) in
        inl (sym (ap (λ t. store_reply b t bytes) (like.targets spot ∙ ap (option_map target_at) at) ∙ store-done b name (target_at (task.uid, task.offset)) bytes held writes past))

    pub stored : (op : Op) → IsTaskOf op (Some task) → IsAtSpot d p op task → IsAllowed b name op replies.Fine
    stored (ops.Store spot xs) of at = let same : bytes ≡ xs = let e = sym work ∙ of.1 in cc in subst (λ ys. IsAllowed b name (ops.Store spot ys) replies.Fine) same (store-fine spot at)
    stored (ops.Load spot n) of at = absurd (let e = sym work ∙ of.1 in cc)
    stored (ops.New home kind room) of at = absurd of
    stored (ops.Lock u m) of at = absurd of
    stored (ops.Unlock u) of at = absurd of
    stored (ops.Delete u) of at = absurd of
    stored (ops.Length u) of at = absurd of
    stored (ops.Map u) of at = absurd of
    stored (ops.Unmap u) of at = absurd of
    stored (ops.List home after) of at = absurd of

-- an answer came to the open load or store
module _ (b : Before) (name : ProcName) (d e : DeskState) (p : ℕ) (like : IsLike b name d p) (desk : IsDesk d) (proc : IsProc p) (a : PageAnswer) (may : IsPageAnswer d p a)
    (o : BegunOp) (doing : Option OpenOp) (continues : (r : OpenOp) → doing ≡ Some r → o ≡ r.began) (placed : IsPlacedAt d p doing (task_of d p)) (within : IfSome (task_of d p) (IsTaskWithin d.known)) (of : IsOf d p (Cause.PageCame a) o.op) where
  abbrev task : Task
  task = open_task_of a

  opened : task_of d p ≡ Some task
  opened = answer-task d.cache.pages (task_of d p) (moving_of d p) may.answer a may.says

  allowed : IsAllowedTask d.entries p task
  allowed =
      let fits = FitsOpen-task d.cache.pages d.entries p (is_access (open_call_of d p)) (task_of d p) (moving_of d p) (ap is_access may.accessing) (desk.calls p proc) in
      subst (IsAllowedTask d.entries p) (same_Some fits.0 task (sym fits.2 ∙ opened)) fits.4.allowed

  task-within : IsTaskWithin d.known task
  task-within = subst (λ x. IfSome x (IsTaskWithin d.known)) opened within

  task-of : IsTaskOf o.op (Some task)
  task-of = subst (IsTaskOf o.op) opened (subst (IsCallOf o.op (task_of d p)) may.accessing of)

  task-at : IsAtSpot d p o.op task
  task-at = by doing refl (subst (IsPlacedAt d p doing) opened placed)
    where
      by : (x : Option OpenOp) → doing ≡ x → IsPlacedAt d p x (Some task) → IsAtSpot d p o.op task
      by None same is = absurd is
      by (Some r) same is = subst (λ (x : BegunOp). IsAtSpot d p x.op task) (sym (continues r same)) is

  came : (t : Task) → IsTaskIn d p (Cause.PageCame a) t → t ≡ task
  came t is = by a is
    where
      by : (x : PageAnswer) → IsTaskIn d p (Cause.PageCame x) t → t ≡ open_task_of x
      by (PageAnswer.Came t2 stamp bytes) same = same
      by (PageAnswer.Taken t2 r stamp) same = same
      by (PageAnswer.NotTaken t2 r stamp) same = same

  -- how it ends, where a load finds its page in the desk after it as the store has it
  module _ (pages : (spot : Spot) (n : ℕ) → o.op ≡ ops.Load spot n → (r : Resident) → is_held (state task.uid b.told) ≡ true → page_at e.cache.pages task.uid (page_of task) ≡ Some r → r.bytes ≡ bytes_from b.opening b.past task.uid (PAGE_BYTES * page_of task) PAGE_BYTES) where
    abbrev EndsSo : Cause → Turn → Type 0
    EndsSo c (Turn.Ends reply) = c ≡ Cause.PageCame a → IsAllowed b name o.op reply
    EndsSo c (Turn.Asks home ask) = Unit {0}
    EndsSo c (Turn.Waits u k) = Unit {0}

    -- what begins is refused alone
    refused-so : (c : Cause) (reply : Reply) → Refuses d p c reply → EndsSo c (Turn.Ends reply)
    refused-so c reply (Refuses.load_unmapped spot count none) = λ same. absurd (cc)
    refused-so c reply (Refuses.load_unheld spot count u offset found free) = λ same. absurd (cc)
    refused-so c reply (Refuses.load_past_end spot count u offset found has past) = λ same. absurd (cc)
    refused-so c reply (Refuses.store_unmapped spot bytes none) = λ same. absurd (cc)
    refused-so c reply (Refuses.store_unheld spot bytes u offset found free) = λ same. absurd (cc)
    refused-so c reply (Refuses.store_mode spot bytes u offset found has mode) = λ same. absurd (cc)
    refused-so c reply (Refuses.store_past_room spot bytes u offset found has mode past) = λ same. absurd (cc)
    refused-so c reply (Refuses.length_unheld u free) = λ same. absurd (cc)
    refused-so c reply (Refuses.map_unheld u free) = λ same. absurd (cc)
    refused-so c reply (Refuses.unmap_none u none) = λ same. absurd (cc)
    refused-so c reply (Refuses.lock_held u m has) = λ same. absurd (cc)
    refused-so c reply (Refuses.lock_unsettled u m has unsettled) = λ same. absurd (cc)
    refused-so c reply (Refuses.lock_full u m free full) = λ same. absurd (cc)
    refused-so c reply (Refuses.lock_elsewhere u m free room away) = λ same. absurd (cc)
    refused-so c reply (Refuses.unlock_free u free) = λ same. absurd (cc)
    refused-so c reply (Refuses.delete_unheld u free) = λ same. absurd (cc)
    refused-so c reply (Refuses.delete_mode u has mode) = λ same. absurd (cc)

    loads-so : (c : Cause) (t : Task) (count : ℕ) (r : Resident) → IsTaskIn d p c t → t.work ≡ Load count → page_at e.cache.pages t.uid (page_of t) ≡ Some r → EndsSo c (Turn.Ends (replies.Bytes (take count (drop (start_of t) r.bytes))))
    loads-so c t count r given work there same =
        let is : t ≡ task = came t (subst (λ x. IsTaskIn d p x t) same given) in
        subst (λ (x : Task). IsAllowed b name o.op (replies.Bytes (take count (drop (start_of x) r.bytes)))) (sym is)
        (loaded b name d p like task allowed task-within r count (ap (λ (x : Task). x.work) (sym is) ∙ work) o.op task-of task-at
        (λ spot n load. pages spot n load r (held b name d p like task allowed task-within) (ap (λ (x : Task). page_at e.cache.pages x.uid (page_of x)) (sym is) ∙ there)))

    stores-so : (c : Cause) (t : Task) (bytes : List ℕ) → IsTaskIn d p c t → t.work ≡ Store bytes → EndsSo c (Turn.Ends replies.Fine)
    stores-so c t bytes given work same =
        let is : t ≡ task = came t (subst (λ x. IsTaskIn d p x t) same given) in
        stored b name d p like task allowed task-within bytes (ap (λ (x : Task). x.work) (sym is) ∙ work) o.op task-of task-at

    said-so : (c : Cause) (turn : Turn) → Says d p e c turn → EndsSo c turn
    said-so c turn (Says.refuses cause reply refused same) = refused-so cause reply refused
    said-so c turn (Says.loads cause t count r given work there) = loads-so cause t count r given work there
    said-so c turn (Says.stores cause t bytes r given work there ends) = stores-so cause t bytes given work
    said-so c turn (Says.measures u has) = λ same. absurd (cc)
    said-so c turn (Says.maps u has) = λ same. absurd (cc)
    said-so c turn (Says.unmaps u mapped) = λ same. absurd (cc)
    said-so c turn (Says.answers x reply says leaves) = λ same. absurd (cc)
    said-so c turn (Says.access_fails t) = λ same. absurd (cc)
    said-so c turn (Says.call_fails call leaves) = λ same. absurd (cc)
    said-so c turn says = tt

    pub came-so : (reply : Reply) → Says d p e (Cause.PageCame a) (Turn.Ends reply) → IsAllowed b name o.op reply
    came-so reply says = said-so (Cause.PageCame a) (Turn.Ends reply) says refl
