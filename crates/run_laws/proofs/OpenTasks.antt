-- In every node each open load or store lies within what is known of its object, from its Begin on.
use Rattle.std.proofs.Common.{◌≡◌, ◌≢◌, ℕ, ◌+◌, ◌*◌, ◌≤◌, Bool, true, false, List, [], length, Option, Some, None, IfSome, inl, inr, refl, sym, ap, subst, ◌∙◌, arith}
use Rattle.std.proofs.lemmas.Bool.{cases_eq}
use Rattle.std.proofs.lemmas.Bool.Decides.{nat_tests}
use Rattle.std.proofs.lemmas.Option.{same_Some}
use Rattle.uid_names.specs.Names.{ObjectName}
use Rattle.uid_names.specs.declared.limits.TheConstants.{PAGE_BYTES}
use Rattle.dom_history.specs.declared.event.What.{What}
use Rattle.dom_history.specs.Objects.{is_node}
use Rattle.ring_messages.specs.Bodies.{Ask, Answer}
use Rattle.fault_handler.specs.declared.lengths.Known.{Known}
use Rattle.fault_handler.specs.declared.tasks.Work.{Work}
use Rattle.fault_handler.specs.declared.tasks.Work.TheVariants.{Load, Store}
use Rattle.fault_handler.specs.declared.tasks.Task.{Task}
use Rattle.fault_handler.specs.Entries.{keeps}
use Rattle.fault_handler.specs.Lengths.{known_of, length_of, room_of}
use Rattle.fault_handler.specs.Desks.{DeskState, entry_at, open_call_of, task_of, moving_of, any_keeps}
use Rattle.fault_handler.specs.Outcomes.{Turn, Moved}
use Rattle.fault_handler.specs.Accesses.{DeskOp}
use Rattle.fault_handler.specs.PageReplies.{PageAnswer, page_answer}
use Rattle.fault_handler.specs.LockCalls.{LockCall, open_call}
use Rattle.fault_handler.specs.Invariant.{IsProc, is_access, IsDesk}
use Rattle.fault_handler.specs.Conditions.{IsIdle}
use Rattle.fault_handler.proofs.Fours.{by_proc, any-at}
use Rattle.fault_handler.proofs.MovingOthers.{FitsOpen-task, FitsOpen-no_task}
use Rattle.lock_validate.specs.Releases.{release_call}
use Rattle.lock_validate.specs.Causes.{Cause, MayCome}
use Rattle.lock_validate.specs.Loading.{IsTaskIn}
use Rattle.lock_validate.specs.Turns.{Says}
use Rattle.lock_validate.specs.DeskMoves.{Change, DeskMoves}
use Rattle.lock_validate.proofs.Beside.{moves-beside}
use Rattle.lock_validate.proofs.DeskStays.{moves-desk}
pub use Rattle.lock_validate.proofs.PageSaid.{open_task_of, answer-task}
use Rattle.node_runs.specs.Setups.{Setup, IsSetup, Given, IsGiven, given}
use Rattle.node_runs.specs.NodeStates.{Await, BegunOp, OpenOp, NodeState, first_node, proc_of}
use Rattle.node_runs.specs.Incomings.{Incoming}
use Rattle.node_runs.specs.Outcomes.{Stage, Stepped}
use Rattle.node_runs.specs.Doings.{ticked}
use Rattle.node_runs.specs.Steps.{step_of}
use Rattle.node_runs.specs.Agreements.{Agrees}
use Rattle.node_runs.specs.SentFrames.{IsFrame, IsIncoming}
use Rattle.node_runs.specs.NodesKeep.{IsNodeOf, Reached, starts, steps, IsTimely}
use Rattle.node_runs.specs.Runs.{World, Choice, world_after}
use Rattle.node_runs.proofs.Nodes.{node-with}
use Rattle.node_runs.proofs.Receiving.{incoming-is}
use Rattle.node_runs.proofs.Calls.{put-same, put-other}
use Rattle.node_runs.proofs.Reaching.{step_of-keeps, Reached-keeps}
use Rattle.node_runs.proofs.SettingUp.{setup-gives, setup-procs}
use Rattle.run_laws.proofs.HearingRuns.{IsKeptNext, every-kept-run}
use Rattle.run_laws.specs.DeskSteps.{OpMove, apart, moves, doing_after, NodeMove, still, moved}
use Rattle.run_laws.specs.OpenCalls.{Carries, CarriesAwait, CarriesOpen, AreCarried}
use Rattle.run_laws.specs.OpenTasks.{IsWithin, IsTaskWithin, AreTasksWithin, transit_of_ask, transit_of_await, transit_of_open, AreTransits}
use Rattle.run_laws.proofs.DeskSteps.{step-desk}
use Rattle.run_laws.proofs.KnownLengths.{IsUp, IsNotLearned, kept-unlearned, change-up, moves-up}

-- what a process moves is told by what its call carries
pub carried-transits : (n : NodeState) → AreCarried n → AreTransits n
carried-transits n carried p proc = by_open (proc_of n p).doing (carried p proc)
  where
    by_ask : (ask : Ask) → Carries n.desk p ask → moving_of n.desk p ≡ transit_of_ask ask
    by_ask (Ask.PageIn u k) is = is
    by_ask (Ask.PageOut u k grant base bytes) is = is.moves
    by_ask (Ask.AttrOut u length grant base) is = is.still
    by_ask (Ask.Lock u m) is = is.0
    by_ask (Ask.Unlock u) is = is.0
    by_ask (Ask.Remove u) is = is.0
    by_ask (Ask.Make kind room) is = is
    by_ask (Ask.ListLocks after) is = is

    by_await : (a : Await) → CarriesAwait n.desk p a → moving_of n.desk p ≡ transit_of_await a
    by_await (Await.Answer c) is = by_ask c.ask is
    by_await (Await.Page u k) is = is

    by_open : (o : Option OpenOp) → CarriesOpen n.desk p o → moving_of n.desk p ≡ transit_of_open o
    by_open None is = is
    by_open (Some o) is = by_await o.awaits is

-- what lies within what was known lies within what is
within-up : (old new : Option Known) → IsUp old new → (offset : ℕ) (work : Work) → IsWithin old offset work → IsWithin new offset work
within-up old new up offset (Load count) is = let e = up.0 in omega (arith, e, is)
within-up old new up offset (Store bytes) is = let e = up.1 in subst (λ r. offset + length bytes ≤ PAGE_BYTES * r) (sym e) is

-- the process of an open load or store keeps its object
task-kept : (d : DeskState) (desk : IsDesk d) (q : ℕ) (other : IsProc q) (t : Task) → task_of d q ≡ Some t → any_keeps d.entries t.uid ≡ true
task-kept d desk q other t is = by (is_access (open_call_of d q)) refl
  where
    by : (b : Bool) → is_access (open_call_of d q) ≡ b → any_keeps d.entries t.uid ≡ true
    by false e = absurd (let f : Some t ≡ None = sym is ∙ FitsOpen-no_task d.cache.pages d.entries q (is_access (open_call_of d q)) (task_of d q) (moving_of d q) e (desk.calls q other) in cc)
    by true e =
        let found = FitsOpen-task d.cache.pages d.entries q (is_access (open_call_of d q)) (task_of d q) (moving_of d q) e (desk.calls q other) in
        let same : found.0 ≡ t = same_Some found.0 t (sym found.2 ∙ is) in
        any-at (λ r. keeps (entry_at d.entries r t.uid)) q other (subst (λ (a : Task). keeps (entry_at d.entries q a.uid) ≡ true) same found.4.allowed.kept)

-- another process's load or store
module _ (c : Cause) (turn : Turn) (p : ℕ) (proc : IsProc p) (q : ℕ) (other : IsProc q) (differs : q ≢ p) where
  abbrev IsTaskIn_desk : DeskState → Type 0
  IsTaskIn_desk d = IfSome (task_of d q) (IsTaskWithin d.known)

  task-change : (d e : DeskState) (dropped : List (ObjectName × ℕ)) → IsDesk d → Change c turn p d e dropped → IsTaskIn_desk d → IsTaskIn_desk e
  task-change d e dropped desk change is =
      let same = (moves-beside c turn p q proc other differs d e dropped (DeskMoves.dropping DeskMoves.none change)).task in
      subst (λ (o : Option Task). IfSome o (IsTaskWithin e.known)) (sym same) (by (task_of d q) refl is)
    where
      by : (o : Option Task) → task_of d q ≡ o → IfSome o (IsTaskWithin d.known) → IfSome o (IsTaskWithin e.known)
      by None same within = tt
      by (Some t) same within =
          let kept = task-kept d desk q other t same in
          within-up (known_of t.uid d.known) (known_of t.uid e.known)
          (change-up t.uid c turn p d e dropped (kept-unlearned t.uid c d kept) change)
          t.offset t.work within

  pub task-moves : (d e : DeskState) (dropped : List (ObjectName × ℕ)) → IsDesk d → DeskMoves c turn p d e dropped → IsTaskIn_desk d → IsTaskIn_desk e
  task-moves d e dropped desk DeskMoves.none is = is
  task-moves d e dropped desk (DeskMoves.next {e = f} before change) is = task-change f e [] (moves-desk c turn p proc d f dropped desk before) change (task-moves d f dropped desk before is)
  task-moves d e dropped desk (DeskMoves.dropping {e = f} before change) is = task-change f e dropped (moves-desk c turn p proc d f [] desk before) change (task-moves d f [] desk before is)

-- where no load or store is open none is kept
pub closed-task : (e : DeskState) (p : ℕ) → IsProc p → IsDesk e → is_access (open_call_of e p) ≡ false → task_of e p ≡ None
closed-task e p proc desk none = FitsOpen-no_task e.cache.pages e.entries p (is_access (open_call_of e p)) (task_of e p) (moving_of e p) none (desk.calls p proc)

pub lock-access : (call : LockCall) → is_access (Some (open_call call)) ≡ false
lock-access (LockCall.Lock u m) = refl
lock-access (LockCall.PageOut u k delete) = refl
lock-access (LockCall.AttrOut u n delete) = refl
lock-access (LockCall.Unlock u) = refl
lock-access (LockCall.Remove u) = refl

module _ (d e : DeskState) (p : ℕ) (proc : IsProc p) (desk : IsDesk e) (was : IfSome (task_of d p) (IsTaskWithin d.known)) where
  came-within : (a : PageAnswer) (x : Answer) → page_answer d p x ≡ Some a → IsTaskWithin d.known (open_task_of a)
  came-within a x says = subst (λ o. IfSome o (IsTaskWithin d.known)) (answer-task d.cache.pages (task_of d p) (moving_of d p) x a says) was

  -- one that begins passed its local tests
  given-within : (c : Cause) (task : Task) → MayCome d p c → IsTaskIn d p c task → IsTaskWithin d.known task
  given-within (Cause.Accesses (DeskOp.Loads spot count)) task may is = let h = is.2 in subst (IsWithin (known_of task.uid d.known) task.offset) (sym is.1) (let f : task.offset + count ≤ length_of (known_of task.uid d.known) = grind (arith, nat_tests, h) in f)
  given-within (Cause.Accesses (DeskOp.Stores spot bytes)) task may is = let h = is.2 in subst (IsWithin (known_of task.uid d.known) task.offset) (sym is.1) (let f : task.offset + length bytes ≤ PAGE_BYTES * room_of (known_of task.uid d.known) = grind (arith, nat_tests, h) in f)
  given-within (Cause.Accesses (DeskOp.Measures u)) task may is = absurd is
  given-within (Cause.Accesses (DeskOp.Maps u)) task may is = absurd is
  given-within (Cause.Accesses (DeskOp.Unmaps u)) task may is = absurd is
  given-within (Cause.PageCame (PageAnswer.Came t stamp bytes)) task may is = subst (IsTaskWithin d.known) (sym is) (came-within (PageAnswer.Came t stamp bytes) may.answer may.says)
  given-within (Cause.PageCame (PageAnswer.Taken t r stamp)) task may is = subst (IsTaskWithin d.known) (sym is) (came-within (PageAnswer.Taken t r stamp) may.answer may.says)
  given-within (Cause.PageCame (PageAnswer.NotTaken t r stamp)) task may is = subst (IsTaskWithin d.known) (sym is) (came-within (PageAnswer.NotTaken t r stamp) may.answer may.says)
  given-within (Cause.Locks u m) task may is = absurd is
  given-within (Cause.Releases delete u) task may is = absurd is
  given-within (Cause.AnswerCame a) task may is = absurd is
  given-within (Cause.AccessFailed t) task may is = absurd is
  given-within (Cause.CallFailed call) task may is = absurd is

  -- a load or store learns of no grant
  given-apart : (c : Cause) (task : Task) → IsTaskIn d p c task → (f : DeskState) → IsNotLearned task.uid c f
  given-apart (Cause.AnswerCame a) task is f v m grant stamp room n given none = absurd is
  given-apart (Cause.Accesses op) task is f v m grant stamp room n given none = absurd (cc)
  given-apart (Cause.PageCame a) task is f v m grant stamp room n given none = absurd (cc)
  given-apart (Cause.Locks u mode) task is f v m grant stamp room n given none = absurd (cc)
  given-apart (Cause.Releases delete u) task is f v m grant stamp room n given none = absurd (cc)
  given-apart (Cause.AccessFailed t) task is f v m grant stamp room n given none = absurd (cc)
  given-apart (Cause.CallFailed call) task is f v m grant stamp room n given none = absurd (cc)

  abbrev IsTaskOfTurn : Turn → Type 0
  IsTaskOfTurn (Turn.Ends reply) = Unit {0}
  IsTaskOfTurn (Turn.Asks home ask) = IfSome (task_of e p) (IsTaskWithin e.known)
  IsTaskOfTurn (Turn.Waits u k) = Unit {0}

  no-task : is_access (open_call_of e p) ≡ false → IfSome (task_of e p) (IsTaskWithin e.known)
  no-task none = subst (λ o. IfSome o (IsTaskWithin e.known)) (sym (closed-task e p proc desk none)) tt

  lock-none : (call : LockCall) → open_call_of e p ≡ Some (open_call call) → IfSome (task_of e p) (IsTaskWithin e.known)
  lock-none call opened = no-task (ap is_access opened ∙ lock-access call)

  given-now : (c : Cause) (turn : Turn) (dropped : List (ObjectName × ℕ)) → MayCome d p c → DeskMoves c turn p d e dropped → (task : Task) → IsTaskIn d p c task → task_of e p ≡ Some task → IfSome (task_of e p) (IsTaskWithin e.known)
  given-now c turn dropped may made task given opened = subst (λ o. IfSome o (IsTaskWithin e.known)) (sym opened)
      (within-up (known_of task.uid d.known) (known_of task.uid e.known) (moves-up task.uid c turn p (given-apart c task given) d e dropped made) task.offset task.work (given-within c task may given))

  said-within : (c : Cause) (turn whole : Turn) (dropped : List (ObjectName × ℕ)) → MayCome d p c → DeskMoves c whole p d e dropped → Says d p e c turn → IsTaskOfTurn turn
  said-within c turn whole dropped may made (Says.asks_page cause task given fetches) = given-now c whole dropped may made task given fetches.opened
  said-within c turn whole dropped may made (Says.sends_room cause task r given room) = given-now c whole dropped may made task given room.opened
  said-within c turn whole dropped may made (Says.sends_page cause delete u k r given opened sends) = lock-none (LockCall.PageOut u k delete) opened
  said-within c turn whole dropped may made (Says.sends_length cause delete u n given opened changed) = lock-none (LockCall.AttrOut u n delete) opened
  said-within c turn whole dropped may made (Says.asks_lock u m opened) = lock-none (LockCall.Lock u m) opened
  said-within c turn whole dropped may made (Says.gives_up cause delete u given opened may_it settled) = lock-none (release_call delete u) opened
  said-within c turn whole dropped may made says = tt

  idle-none : IsIdle e p → IfSome (task_of e p) (IsTaskWithin e.known)
  idle-none idle = no-task (ap is_access idle.no_call)

module _ (g : Given) (n : NodeState) (incoming : Incoming) (s : Stepped) (is : IsNodeOf g n) (now : IsNodeOf g s.node) (within : AreTasksWithin n.desk) where
  own-within : (p : ℕ) (proc : IsProc p) (o : BegunOp) (stage : Stage) (m : Moved) → OpMove g.opening incoming (proc_of n p).doing stage n.desk p o.op m → s.node.desk ≡ m.desk → (proc_of s.node p).doing ≡ doing_after o (proc_of n p) m.turn → IfSome (task_of s.node.desk p) (IsTaskWithin s.node.desk.known)
  own-within p proc o stage m (apart same turn) at doing = subst (λ (d : DeskState). IfSome (task_of d p) (IsTaskWithin d.known)) (sym (at ∙ same)) (within p proc)
  own-within p proc o stage m (moves c may of at_stage taken made) at doing = by m.turn refl (subst (Agrees s.node.desk p (proc_of s.node p).last) doing (now.agrees p proc))
    where
      by : (turn : Turn) → m.turn ≡ turn → Agrees s.node.desk p (proc_of s.node p).last (doing_after o (proc_of n p) turn) → IfSome (task_of s.node.desk p) (IsTaskWithin s.node.desk.known)
      by (Turn.Ends reply) same agrees = idle-none n.desk s.node.desk p proc now.desk (within p proc) agrees
      by (Turn.Waits u k) same agrees = idle-none n.desk s.node.desk p proc now.desk (within p proc) agrees.1.idle
      by (Turn.Asks home ask) same agrees = subst (λ (d : DeskState). IfSome (task_of d p) (IsTaskWithin d.known)) (sym at)
          (said-within n.desk m.desk p proc (subst IsDesk at now.desk) (within p proc) c (Turn.Asks home ask) m.turn m.dropped may made.moves (subst (Says n.desk p m.desk c) same made.says))

  other-within : (p : ℕ) (proc : IsProc p) (o : BegunOp) (stage : Stage) (m : Moved) → OpMove g.opening incoming (proc_of n p).doing stage n.desk p o.op m → (q : ℕ) → IsProc q → q ≢ p → IfSome (task_of m.desk q) (IsTaskWithin m.desk.known)
  other-within p proc o stage m (apart same turn) q other differs = subst (λ (d : DeskState). IfSome (task_of d q) (IsTaskWithin d.known)) (sym same) (within q other)
  other-within p proc o stage m (moves c may of at_stage taken made) q other differs = task-moves c m.turn p proc q other differs n.desk m.desk m.dropped is.desk made.moves (within q other)

  node-within : NodeMove g n incoming s → AreTasksWithin s.node.desk
  node-within (still desk same quiet uncalled) q other = subst (λ (d : DeskState). IfSome (task_of d q) (IsTaskWithin d.known)) (sym desk) (within q other)
  node-within (moved p o stage m proc continues made desk doing others note call side) q other = elim (cases_eq q p) [
    | inl there ↦ subst (λ r. IfSome (task_of s.node.desk r) (IsTaskWithin s.node.desk.known)) (sym there) (own-within p proc o stage m made desk doing)
    | inr beside ↦ subst (λ (d : DeskState). IfSome (task_of d q) (IsTaskWithin d.known)) (sym desk) (other-within p proc o stage m made q other beside)
  ]

-- each step keeps it
pub step-within : (g : Given) (n : NodeState) (what : What) (incoming : Incoming) (dropped : List (ObjectName × ℕ)) (s : Stepped) → IsGiven g → IsNodeOf g n → IsIncoming incoming → AreTasksWithin n.desk → step_of g n what incoming dropped ≡ Some s → AreTasksWithin s.node.desk
step-within g n what incoming dropped s given is frame within e =
    node-within g (ticked n incoming) incoming s (node-with g n (ticked n incoming) is refl refl is.side is.home is.within.side) (step_of-keeps g n what incoming dropped s given is frame e).node within (step-desk g n what incoming dropped s given is frame e)

first-within : (g : Given) → AreTasksWithin (first_node g).desk
first-within g = by_proc (λ p. IfSome (task_of (first_node g).desk p) (IsTaskWithin (first_node g).desk.known)) tt tt tt tt

-- so it holds wherever a node's events led
pub reached-within : (g : Given) → IsGiven g → (n : NodeState) → Reached g n → AreTasksWithin n.desk
reached-within g is n starts = first-within g
reached-within g is n (steps {n = m} s what incoming dropped before frame e) = step-within g m what incoming dropped s is (Reached-keeps g is m before) frame (reached-within g is m before) e

-- and in every run
abbrev AreAllWithin : Setup → World → Type 0
AreAllWithin s w = (n : ℕ) → is_node s.opening n ≡ true → AreTasksWithin (w.nodes n).desk

all-later : (s : Setup) (setup : IsSetup s) (old : World) (c : Choice) (new : World) → IsKeptNext s old c new → AreAllWithin s old → AreAllWithin s new
all-later s setup old c new next within = subst (AreAllWithin s) (sym next.is.world)
    (λ a node. elim (cases_eq a c.node) [
      | inl here ↦ subst (λ (x : NodeState). AreTasksWithin x.desk) (sym (put-same old.nodes c.node a next.is.step.node here)) (step (subst (λ b. is_node s.opening b ≡ true) here node))
      | inr away ↦ subst (λ (x : NodeState). AreTasksWithin x.desk) (sym (put-other old.nodes c.node a next.is.step.node away)) (within a node)
    ])
  where
    step : is_node s.opening c.node ≡ true → AreTasksWithin next.is.step.node.desk
    step node =
        step-within (given s c.node) (old.nodes c.node) c.what next.is.incoming c.dropped next.is.step (setup-gives s setup c.node node) (next.kept.nodes c.node node)
        (incoming-is IsIncoming tt (λ number tick. tt) (λ tick. tt) IsFrame (λ m is. is) old c.node (λ from. next.kept.frames from c.node) c.what next.is.incoming next.is.comes) (within c.node node) next.is.steps

pub runs-within : (s : Setup) → IsSetup s → (cs : List Choice) (w : World) → world_after s cs ≡ Some w → IsTimely w → (n : ℕ) → is_node s.opening n ≡ true → AreTasksWithin (w.nodes n).desk
runs-within s setup = every-kept-run s setup (setup-procs s setup) (AreAllWithin s) (λ n node. first-within (given s n)) (λ cs old c new e timely next within. all-later s setup old c new next within)
