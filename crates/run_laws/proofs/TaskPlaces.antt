-- In every node each open load or store is at the place that the spot of its operation names, from its Begin on.
use Rattle.std.proofs.Common.{◌≡◌, ◌≢◌, ℕ, true, false, List, [], Option, Some, None, inl, inr, refl, sym, ap, subst, ◌∙◌}
use Rattle.std.proofs.lemmas.Bool.{cases_eq}
use Rattle.uid_names.specs.Names.{ObjectName}
use Rattle.dom_history.specs.declared.op.Op.{Op}
use Rattle.dom_history.specs.declared.op.Op.TheVariants as ops
use Rattle.dom_history.specs.declared.op.Spot.{Spot}
use Rattle.dom_history.specs.declared.op.Spot.TheVariants.{Of, Addr}
use Rattle.dom_history.specs.declared.event.What.{What}
use Rattle.dom_history.specs.Objects.{is_node}
use Rattle.address_map.specs.declared.mapping.Mapping.{Mapping}
use Rattle.address_map.specs.Mappings.{mapping_at, target_in}
use Rattle.ring_messages.specs.Bodies.{Ask}
use Rattle.fault_handler.specs.declared.tasks.Task.{Task}
use Rattle.fault_handler.specs.Desks.{DeskState, at, maps_of, open_call_of, task_of, moving_of}
use Rattle.fault_handler.specs.Outcomes.{Turn, Moved}
use Rattle.fault_handler.specs.Accesses.{DeskOp, target_of}
use Rattle.fault_handler.specs.PageReplies.{PageAnswer}
use Rattle.fault_handler.specs.LockCalls.{LockCall, open_call}
use Rattle.fault_handler.specs.Invariant.{IsProc, is_access, IsDesk}
use Rattle.fault_handler.proofs.Fours.{by_proc}
use Rattle.lock_validate.specs.Releases.{release_call}
use Rattle.lock_validate.specs.Causes.{Cause, MayCome, IsOf}
use Rattle.lock_validate.specs.Loading.{IsTaskIn}
use Rattle.lock_validate.specs.Turns.{Says}
use Rattle.lock_validate.specs.DeskMoves.{Change, DeskMoves}
use Rattle.lock_validate.proofs.Beside.{moves-beside}
use Rattle.node_runs.specs.Setups.{Setup, IsSetup, Given, IsGiven, given}
use Rattle.node_runs.specs.NodeStates.{Await, BegunOp, OpenOp, ProcState, NodeState, first_node, proc_of}
use Rattle.node_runs.specs.Incomings.{Incoming}
use Rattle.node_runs.specs.Outcomes.{Stage, Stepped, next_call}
use Rattle.node_runs.specs.Doings.{ticked}
use Rattle.node_runs.specs.Steps.{step_of}
use Rattle.node_runs.specs.Agreements.{IsCalling, Agrees}
use Rattle.node_runs.specs.SentFrames.{IsFrame, IsIncoming}
use Rattle.node_runs.specs.NodesKeep.{IsNodeOf, Reached, starts, steps, IsTimely}
use Rattle.node_runs.specs.Runs.{World, Choice, world_after}
use Rattle.node_runs.proofs.Nodes.{node-with}
use Rattle.node_runs.proofs.Receiving.{incoming-is}
use Rattle.node_runs.proofs.Calls.{put-same, put-other}
use Rattle.node_runs.proofs.Reaching.{step_of-keeps, Reached-keeps}
use Rattle.node_runs.proofs.SettingUp.{setup-gives, setup-procs}
use Rattle.run_laws.proofs.HearingRuns.{IsKeptNext, every-kept-run}
use Rattle.run_laws.specs.DeskSteps.{IsHomeAsk, IsHomeTurn, OpMove, apart, moves, doing_after, IsSameDoing, NodeMove, still, moved}
use Rattle.run_laws.specs.OpenTasks.{IsAtSpot, IsPlacedAt, AreTasksPlaced}
use Rattle.run_laws.proofs.DeskSteps.{IsContinued, at-continued, home-asks, same-doing, step-desk}
use Rattle.run_laws.proofs.OpenTasks.{closed-task, lock-access, open_task_of, answer-task}

-- a spot names the same where the mappings of the process are the same
spot-same : (d e : DeskState) (p : ℕ) (spot : Spot) → maps_of e p ≡ maps_of d p → target_of e p spot ≡ target_of d p spot
spot-same d e p (Of u offset) same = refl
spot-same d e p (Addr address) same = ap (λ (ms : List Mapping). target_in address (mapping_at address ms)) same

at-same : (d e : DeskState) (p : ℕ) (op : Op) (task : Task) → maps_of e p ≡ maps_of d p → IsAtSpot d p op task → IsAtSpot e p op task
at-same d e p (ops.Load spot count) task same is = spot-same d e p spot same ∙ is
at-same d e p (ops.Store spot bytes) task same is = spot-same d e p spot same ∙ is
at-same d e p (ops.New home kind room) task same is = is
at-same d e p (ops.Lock u m) task same is = is
at-same d e p (ops.Unlock u) task same is = is
at-same d e p (ops.Delete u) task same is = is
at-same d e p (ops.Length u) task same is = is
at-same d e p (ops.Map u) task same is = is
at-same d e p (ops.Unmap u) task same is = is
at-same d e p (ops.List home after) task same is = is

placed-same : (d e : DeskState) (p : ℕ) (o r : Option OpenOp) (task : Option Task) → maps_of e p ≡ maps_of d p → IsSameDoing o r → IsPlacedAt d p o task → IsPlacedAt e p r task
placed-same d e p o r None same doing is = tt
placed-same d e p None None (Some task) same doing is = is
placed-same d e p None (Some r) (Some task) same doing is = absurd doing
placed-same d e p (Some o) None (Some task) same doing is = absurd doing
placed-same d e p (Some o) (Some r) (Some task) same doing is = subst (λ (b : BegunOp). IsAtSpot e p b.op task) (sym doing.0) (at-same d e p o.began.op task same is)

-- a cause that maps nothing
abbrev IsUnmapping : Cause → Type 0
IsUnmapping (Cause.Accesses (DeskOp.Maps u)) = ⊥
IsUnmapping (Cause.Accesses (DeskOp.Unmaps u)) = ⊥
IsUnmapping c = Unit {0}

module _ (c : Cause) (turn : Turn) (p : ℕ) (quiet : IsUnmapping c) where
  change-maps : (d e : DeskState) (dropped : List (ObjectName × ℕ)) → Change c turn p d e dropped → e.maps ≡ d.maps
  change-maps d e dropped (Change.maps u given idle held) = absurd (subst IsUnmapping given quiet)
  change-maps d e dropped (Change.unmaps u given idle there) = absurd (subst IsUnmapping given quiet)
  change-maps d e dropped change = refl

  moves-maps : (d e : DeskState) (dropped : List (ObjectName × ℕ)) → DeskMoves c turn p d e dropped → e.maps ≡ d.maps
  moves-maps d e dropped DeskMoves.none = refl
  moves-maps d e dropped (DeskMoves.next {e = f} before change) = change-maps f e [] change ∙ moves-maps d f dropped before
  moves-maps d e dropped (DeskMoves.dropping {e = f} before change) = change-maps f e dropped change ∙ moves-maps d f [] before

given-quiet : (d : DeskState) (p : ℕ) (c : Cause) (task : Task) → IsTaskIn d p c task → IsUnmapping c
given-quiet d p (Cause.Accesses (DeskOp.Loads spot count)) task is = tt
given-quiet d p (Cause.Accesses (DeskOp.Stores spot bytes)) task is = tt
given-quiet d p (Cause.Accesses (DeskOp.Measures u)) task is = tt
given-quiet d p (Cause.Accesses (DeskOp.Maps u)) task is = absurd is
given-quiet d p (Cause.Accesses (DeskOp.Unmaps u)) task is = absurd is
given-quiet d p (Cause.Locks u m) task is = tt
given-quiet d p (Cause.Releases delete u) task is = tt
given-quiet d p (Cause.PageCame a) task is = tt
given-quiet d p (Cause.AnswerCame a) task is = tt
given-quiet d p (Cause.AccessFailed t) task is = tt
given-quiet d p (Cause.CallFailed call) task is = tt

placed-none : (e : DeskState) (p : ℕ) (doing : Option OpenOp) → IsProc p → IsDesk e → is_access (open_call_of e p) ≡ false → IsPlacedAt e p doing (task_of e p)
placed-none e p doing proc desk none = subst (IsPlacedAt e p doing) (sym (closed-task e p proc desk none)) tt

-- the open load or store is that of the operation that goes on
open-at : (d : DeskState) (p : ℕ) (doing : Option OpenOp) (o : BegunOp) (task : Task) → IsContinued doing o → IsPlacedAt d p doing (Some task) → IsAtSpot d p o.op task
open-at d p None o task continues is = absurd is
open-at d p (Some r) o task continues is = subst (λ (b : BegunOp). IsAtSpot d p b.op task) (sym continues) is

module _ (d e : DeskState) (p : ℕ) (proc : IsProc p) (desk : IsDesk e) (doing : Option OpenOp) (was : IsPlacedAt d p doing (task_of d p)) (o : BegunOp) (continues : IsContinued doing o) where
  given-at : (c : Cause) (task : Task) → MayCome d p c → IsOf d p c o.op → IsTaskIn d p c task → IsAtSpot d p o.op task
  given-at (Cause.Accesses (DeskOp.Loads spot count)) task may of is = subst (λ op. IsAtSpot d p op task) (sym of) is.0
  given-at (Cause.Accesses (DeskOp.Stores spot bytes)) task may of is = subst (λ op. IsAtSpot d p op task) (sym of) is.0
  given-at (Cause.Accesses (DeskOp.Measures u)) task may of is = absurd is
  given-at (Cause.Accesses (DeskOp.Maps u)) task may of is = absurd is
  given-at (Cause.Accesses (DeskOp.Unmaps u)) task may of is = absurd is
  given-at (Cause.PageCame a) task may of is =
      let found = answer-task d.cache.pages (task_of d p) (moving_of d p) may.answer a may.says in
      subst (IsAtSpot d p o.op) (sym (came a is)) (open-at d p doing o (open_task_of a) continues (subst (IsPlacedAt d p doing) found was))
    where
      came : (a : PageAnswer) → IsTaskIn d p (Cause.PageCame a) task → task ≡ open_task_of a
      came (PageAnswer.Came t stamp bytes) same = same
      came (PageAnswer.Taken t r stamp) same = same
      came (PageAnswer.NotTaken t r stamp) same = same
  given-at (Cause.Locks u m) task may of is = absurd is
  given-at (Cause.Releases delete u) task may of is = absurd is
  given-at (Cause.AnswerCame a) task may of is = absurd is
  given-at (Cause.AccessFailed t) task may of is = absurd is
  given-at (Cause.CallFailed call) task may of is = absurd is

  abbrev IsTurnPlaced : OpenOp → Turn → Type 0
  IsTurnPlaced r (Turn.Ends reply) = Unit {0}
  IsTurnPlaced r (Turn.Asks home ask) = IsPlacedAt e p (Some r) (task_of e p)
  IsTurnPlaced r (Turn.Waits u k) = Unit {0}

  module _ (r : OpenOp) (began : r.began ≡ o) where
    given-placed : (c : Cause) (turn : Turn) (dropped : List (ObjectName × ℕ)) → MayCome d p c → IsOf d p c o.op → DeskMoves c turn p d e dropped → (task : Task) → IsTaskIn d p c task → task_of e p ≡ Some task → IsPlacedAt e p (Some r) (task_of e p)
    given-placed c turn dropped may of made task given opened = subst (IsPlacedAt e p (Some r)) (sym opened)
        (subst (λ (b : BegunOp). IsAtSpot e p b.op task) (sym began)
        (at-same d e p o.op task (ap (λ ms. at ms p []) (moves-maps c turn p (given-quiet d p c task given) d e dropped made)) (given-at c task may of given)))

    lock-placed : (call : LockCall) → open_call_of e p ≡ Some (open_call call) → IsPlacedAt e p (Some r) (task_of e p)
    lock-placed call opened = placed-none e p (Some r) proc desk (ap is_access opened ∙ lock-access call)

    said-placed : (c : Cause) (turn whole : Turn) (dropped : List (ObjectName × ℕ)) → MayCome d p c → IsOf d p c o.op → DeskMoves c whole p d e dropped → Says d p e c turn → IsTurnPlaced r turn
    said-placed c turn whole dropped may of made (Says.asks_page cause task given fetches) = given-placed c whole dropped may of made task given fetches.opened
    said-placed c turn whole dropped may of made (Says.sends_room cause task page given room) = given-placed c whole dropped may of made task given room.opened
    said-placed c turn whole dropped may of made (Says.sends_page cause delete u k page given opened sends) = lock-placed (LockCall.PageOut u k delete) opened
    said-placed c turn whole dropped may of made (Says.sends_length cause delete u n given opened changed) = lock-placed (LockCall.AttrOut u n delete) opened
    said-placed c turn whole dropped may of made (Says.asks_lock u m opened) = lock-placed (LockCall.Lock u m) opened
    said-placed c turn whole dropped may of made (Says.gives_up cause delete u given opened may_it settled) = lock-placed (release_call delete u) opened
    said-placed c turn whole dropped may of made says = tt

-- a new object or a list is no load or store
home-placed : (e : DeskState) (p : ℕ) → IsProc p → IsDesk e → (doing : Option OpenOp) (op : Op) (home : ℕ) (ask : Ask) → IsHomeAsk op home ask → IsCalling e p op ask → IsPlacedAt e p doing (task_of e p)
home-placed e p proc desk doing (ops.New to kind room) home ask is calling = placed-none e p doing proc desk (ap is_access calling.0.no_call)
home-placed e p proc desk doing (ops.List to after) home ask is calling = placed-none e p doing proc desk (ap is_access calling.0.no_call)
home-placed e p proc desk doing (ops.Lock u m) home ask is calling = absurd is
home-placed e p proc desk doing (ops.Unlock u) home ask is calling = absurd is
home-placed e p proc desk doing (ops.Delete u) home ask is calling = absurd is
home-placed e p proc desk doing (ops.Load spot count) home ask is calling = absurd is
home-placed e p proc desk doing (ops.Store spot bytes) home ask is calling = absurd is
home-placed e p proc desk doing (ops.Length u) home ask is calling = absurd is
home-placed e p proc desk doing (ops.Map u) home ask is calling = absurd is
home-placed e p proc desk doing (ops.Unmap u) home ask is calling = absurd is

module _ (g : Given) (n : NodeState) (incoming : Incoming) (s : Stepped) (is : IsNodeOf g n) (now : IsNodeOf g s.node) (placed : AreTasksPlaced n) where
  own-placed : (p : ℕ) (proc : IsProc p) (o : BegunOp) (stage : Stage) (m : Moved) → IsContinued (proc_of n p).doing o → OpMove g.opening incoming (proc_of n p).doing stage n.desk p o.op m → s.node.desk ≡ m.desk → (proc_of s.node p).doing ≡ doing_after o (proc_of n p) m.turn
      → IsPlacedAt s.node.desk p (doing_after o (proc_of n p) m.turn) (task_of s.node.desk p)
  own-placed p proc o stage m continues made is_desk doing = by m.turn refl (subst (Agrees s.node.desk p (proc_of s.node p).last) doing (now.agrees p proc))
    where
      by : (turn : Turn) → m.turn ≡ turn → Agrees s.node.desk p (proc_of s.node p).last (doing_after o (proc_of n p) turn) → IsPlacedAt s.node.desk p (doing_after o (proc_of n p) turn) (task_of s.node.desk p)
      by (Turn.Ends reply) same agrees = placed-none s.node.desk p (doing_after o (proc_of n p) (Turn.Ends reply)) proc now.desk (ap is_access agrees.no_call)
      by (Turn.Waits u k) same agrees = placed-none s.node.desk p (doing_after o (proc_of n p) (Turn.Waits u k)) proc now.desk (ap is_access agrees.1.idle.no_call)
      by (Turn.Asks home ask) same agrees = elim made [
        | apart desk turn ↦ home-placed s.node.desk p proc now.desk (doing_after o (proc_of n p) (Turn.Asks home ask)) o.op home ask (home-asks g.opening incoming p (proc_of n p).doing stage o.op home ask (subst (IsHomeTurn g.opening incoming p (proc_of n p).doing stage o.op) same turn)) agrees.1.0
        | moves c may of at_stage taken by_moves ↦ subst (λ d. IsPlacedAt d p (doing_after o (proc_of n p) (Turn.Asks home ask)) (task_of d p)) (sym is_desk)
            (said-placed n.desk m.desk p proc (subst IsDesk is_desk now.desk) (proc_of n p).doing (placed p proc) o continues (record { began = o; awaits = Await.Answer (next_call (proc_of n p) home ask) }) refl
            c (Turn.Asks home ask) m.turn m.dropped may of by_moves.moves (subst (Says n.desk p m.desk c) same by_moves.says))
      ]

  other-placed : (p : ℕ) (proc : IsProc p) (o : BegunOp) (stage : Stage) (m : Moved) → OpMove g.opening incoming (proc_of n p).doing stage n.desk p o.op m → (q : ℕ) → IsProc q → q ≢ p → IsPlacedAt m.desk q (proc_of n q).doing (task_of m.desk q)
  other-placed p proc o stage m (apart desk turn) q other differs = subst (λ d. IsPlacedAt d q (proc_of n q).doing (task_of d q)) (sym desk) (placed q other)
  other-placed p proc o stage m (moves c may of at_stage taken made) q other differs =
      let same = moves-beside c m.turn p q proc other differs n.desk m.desk m.dropped made.moves in
      subst (IsPlacedAt m.desk q (proc_of n q).doing) (sym same.task) (placed-same n.desk m.desk q (proc_of n q).doing (proc_of n q).doing (task_of n.desk q) same.maps (same-doing (proc_of n q).doing) (placed q other))

  node-placed : NodeMove g n incoming s → AreTasksPlaced s.node
  node-placed (still desk same quiet uncalled) q other = subst (λ d. IsPlacedAt d q (proc_of s.node q).doing (task_of d q)) (sym desk) (placed-same n.desk n.desk q (proc_of n q).doing (proc_of s.node q).doing (task_of n.desk q) refl (same q other) (placed q other))
  node-placed (moved p o stage m proc continues made desk doing others note call side) q other = elim (cases_eq q p) [
    | inl there ↦ subst (λ r. IsPlacedAt s.node.desk r (proc_of s.node r).doing (task_of s.node.desk r)) (sym there)
        (subst (λ x. IsPlacedAt s.node.desk p x (task_of s.node.desk p)) (sym doing) (own-placed p proc o stage m (at-continued (proc_of n p).doing o stage continues) made desk doing))
    | inr beside ↦ subst (λ (x : ProcState). IsPlacedAt s.node.desk q x.doing (task_of s.node.desk q)) (sym (others q other beside))
        (subst (λ d. IsPlacedAt d q (proc_of n q).doing (task_of d q)) (sym desk) (other-placed p proc o stage m made q other beside))
  ]

-- each step keeps it
pub step-placed : (g : Given) (n : NodeState) (what : What) (incoming : Incoming) (dropped : List (ObjectName × ℕ)) (s : Stepped) → IsGiven g → IsNodeOf g n → IsIncoming incoming → AreTasksPlaced n → step_of g n what incoming dropped ≡ Some s → AreTasksPlaced s.node
step-placed g n what incoming dropped s given is frame placed e =
    node-placed g (ticked n incoming) incoming s (node-with g n (ticked n incoming) is refl refl is.side is.home is.within.side) (step_of-keeps g n what incoming dropped s given is frame e).node placed (step-desk g n what incoming dropped s given is frame e)

first-placed : (g : Given) → AreTasksPlaced (first_node g)
first-placed g = by_proc (λ p. IsPlacedAt (first_node g).desk p (proc_of (first_node g) p).doing (task_of (first_node g).desk p)) tt tt tt tt

-- so it holds wherever a node's events led
pub reached-placed : (g : Given) → IsGiven g → (n : NodeState) → Reached g n → AreTasksPlaced n
reached-placed g is n starts = first-placed g
reached-placed g is n (steps {n = m} s what incoming dropped before frame e) = step-placed g m what incoming dropped s is (Reached-keeps g is m before) frame (reached-placed g is m before) e

-- and in every run
abbrev AreAllPlaced : Setup → World → Type 0
AreAllPlaced s w = (n : ℕ) → is_node s.opening n ≡ true → AreTasksPlaced (w.nodes n)

all-later : (s : Setup) (setup : IsSetup s) (old : World) (c : Choice) (new : World) → IsKeptNext s old c new → AreAllPlaced s old → AreAllPlaced s new
all-later s setup old c new next placed = subst (AreAllPlaced s) (sym next.is.world)
    (λ a node. elim (cases_eq a c.node) [
      | inl here ↦ subst AreTasksPlaced (sym (put-same old.nodes c.node a next.is.step.node here)) (step (subst (λ b. is_node s.opening b ≡ true) here node))
      | inr away ↦ subst AreTasksPlaced (sym (put-other old.nodes c.node a next.is.step.node away)) (placed a node)
    ])
  where
    step : is_node s.opening c.node ≡ true → AreTasksPlaced next.is.step.node
    step node =
        step-placed (given s c.node) (old.nodes c.node) c.what next.is.incoming c.dropped next.is.step (setup-gives s setup c.node node) (next.kept.nodes c.node node)
        (incoming-is IsIncoming tt (λ number tick. tt) (λ tick. tt) IsFrame (λ m is. is) old c.node (λ from. next.kept.frames from c.node) c.what next.is.incoming next.is.comes) (placed c.node node) next.is.steps

pub runs-placed : (s : Setup) → IsSetup s → (cs : List Choice) (w : World) → world_after s cs ≡ Some w → IsTimely w → (n : ℕ) → is_node s.opening n ≡ true → AreTasksPlaced (w.nodes n)
runs-placed s setup = every-kept-run s setup (setup-procs s setup) (AreAllPlaced s) (λ n node. first-placed (given s n)) (λ cs old c new e timely next placed. all-later s setup old c new next placed)
