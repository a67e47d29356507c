-- In every run a call about an object asks the object's home.
use Rattle.std.proofs.Common.{◌≡◌, ℕ, Bool, true, false, List, Option, Some, None, inl, inr, refl, sym, subst}
use Rattle.std.proofs.lemmas.Bool.{cases_eq}
use Rattle.uid_names.specs.Names.{ObjectName}
use Rattle.dom_history.specs.declared.op.Op.{Op}
use Rattle.dom_history.specs.declared.op.Op.TheVariants as ops
use Rattle.dom_history.specs.Objects.{is_node}
use Rattle.ring_messages.specs.Bodies.{Ask}
use Rattle.ring_messages.specs.Frames.{Message}
use Rattle.fault_handler.specs.declared.open_call.OpenCall.{OpenCall}
use Rattle.fault_handler.specs.declared.open_call.OpenCall.TheVariants as calls
use Rattle.fault_handler.specs.declared.tasks.Task.{Task}
use Rattle.fault_handler.specs.Accesses.{DeskOp}
use Rattle.fault_handler.specs.Next.{release_op, IsCallOf, IsTaskOf}
use Rattle.fault_handler.specs.Desks.{DeskState, open_call_of, task_of}
use Rattle.fault_handler.specs.Outcomes.{Turn, Moved}
use Rattle.fault_handler.specs.Invariant.{IsProc}
use Rattle.fault_handler.proofs.Fours.{by_proc}
use Rattle.lock_validate.specs.Releases.{release_ask}
use Rattle.lock_validate.specs.Causes.{Cause, IsOf, op_of}
use Rattle.lock_validate.specs.Turns.{Says}
use Rattle.uid_names.specs.Openings.{Start}
use Rattle.node_runs.specs.Setups.{Setup, IsSetup, Given, given}
use Rattle.node_runs.specs.NodeStates.{Asked, Await, BegunOp, OpenOp, ProcState, NodeState, first_node, proc_of}
use Rattle.node_runs.specs.Incomings.{Incoming}
use Rattle.node_runs.specs.Outcomes.{Stage, Stepped}
use Rattle.node_runs.specs.Doings.{ticked}
use Rattle.node_runs.specs.NodesKeep.{IsTimely}
use Rattle.node_runs.specs.Runs.{World, Choice, calls_after, world_after}
use Rattle.node_runs.specs.CallsKeep.{EachOf, IsOnLink}
use Rattle.node_runs.proofs.Receiving.{EachOf-more, incoming-is}
use Rattle.node_runs.proofs.Calls.{put-same, put-other}
use Rattle.node_runs.proofs.CallSteps.{IsFrameProc, CallStep, silent, asked, again, did-calls}
use Rattle.node_runs.proofs.SettingUp.{setup-procs}
use Rattle.run_laws.proofs.HearingRuns.{IsKeptNext, every-kept-run, event, event-did}
use Rattle.run_laws.specs.DeskSteps.{IsOfHome, IsHomeAsk, IsHomeTurn, OpMove, apart, moves, doing_after, IsSameAwait, IsSameDoing, NodeMove, still, moved}
use Rattle.run_laws.specs.AskedHomes.{IsAtHome, IsOpAtHome, IsAwaitAtHome, IsOpenAtHome, AreOpenAtHomes, AreCallsAtHomes}
use Rattle.run_laws.proofs.DeskSteps.{home-asks}
use Rattle.run_laws.proofs.EventMoves.{desk-moves}

abbrev IsTurnAtHome : Turn → Type 0
IsTurnAtHome (Turn.Ends reply) = Unit {0}
IsTurnAtHome (Turn.Asks home ask) = IsAtHome home ask
IsTurnAtHome (Turn.Waits u k) = Unit {0}

release-home : (delete : Bool) (u : ObjectName) → IsAtHome u.home (release_ask delete u)
release-home true u = refl
release-home false u = refl

said-home : (d e : DeskState) (p : ℕ) (c : Cause) (turn : Turn) → Says d p e c turn → IsTurnAtHome turn
said-home d e p c turn (Says.asks_page cause task given fetches) = refl
said-home d e p c turn (Says.sends_room cause task r given room) = refl
said-home d e p c turn (Says.sends_page cause delete u k r given opened sends) = refl
said-home d e p c turn (Says.sends_length cause delete u n given opened changed) = refl
said-home d e p c turn (Says.asks_lock u m opened) = refl
said-home d e p c turn (Says.gives_up cause delete u given opened may settled) = release-home delete u
said-home d e p c turn says = tt

home-ask : (op : Op) (to : ℕ) (ask : Ask) → IsHomeAsk op to ask → IsAtHome to ask × IsOpAtHome op to
home-ask (ops.New home kind room) to ask is = (subst (IsAtHome to) (sym is.1) tt, is.0)
home-ask (ops.List home after) to ask is = (subst (IsAtHome to) (sym is.1) tt, is.0)
home-ask (ops.Lock u m) to ask is = absurd is
home-ask (ops.Unlock u) to ask is = absurd is
home-ask (ops.Delete u) to ask is = absurd is
home-ask (ops.Load spot count) to ask is = absurd is
home-ask (ops.Store spot bytes) to ask is = absurd is
home-ask (ops.Length u) to ask is = absurd is
home-ask (ops.Map u) to ask is = absurd is
home-ask (ops.Unmap u) to ask is = absurd is

-- a new object or a list is no operation of the desk
not-task : (op : Op) (task : Option Task) → IsOfHome op → IsTaskOf op task → ⊥
not-task (ops.New to kind room) task home is = is
not-task (ops.List to after) task home is = is
not-task (ops.Lock u m) task home is = home
not-task (ops.Unlock u) task home is = home
not-task (ops.Delete u) task home is = home
not-task (ops.Load spot count) task home is = home
not-task (ops.Store spot bytes) task home is = home
not-task (ops.Length u) task home is = home
not-task (ops.Map u) task home is = home
not-task (ops.Unmap u) task home is = home

not-release : (delete : Bool) (u : ObjectName) → IsOfHome (release_op delete u) → ⊥
not-release true u home = home
not-release false u home = home

not-access : (access : DeskOp) → IsOfHome (op_of access) → ⊥
not-access (DeskOp.Loads spot count) home = home
not-access (DeskOp.Stores spot bytes) home = home
not-access (DeskOp.Measures u) home = home
not-access (DeskOp.Maps u) home = home
not-access (DeskOp.Unmaps u) home = home

not-call : (op : Op) (task : Option Task) (o : Option OpenCall) → IsOfHome op → IsCallOf op task o → ⊥
not-call op task None home is = is
not-call op task (Some calls.Access) home is = not-task op task home is
not-call op task (Some (calls.Lock u m)) home is = subst IsOfHome is home
not-call op task (Some (calls.PageOut u k delete)) home is = not-release delete u (subst IsOfHome is home)
not-call op task (Some (calls.AttrOut u n delete)) home is = not-release delete u (subst IsOfHome is home)
not-call op task (Some (calls.Unlock u)) home is = subst IsOfHome is home
not-call op task (Some (calls.Remove u)) home is = subst IsOfHome is home

not-caused : (d : DeskState) (p : ℕ) (op : Op) (c : Cause) → IsOf d p c op → IsOfHome op → ⊥
not-caused d p op (Cause.Accesses access) is home = not-access access (subst IsOfHome is home)
not-caused d p op (Cause.Locks u m) is home = subst IsOfHome is home
not-caused d p op (Cause.Releases delete u) is home = not-release delete u (subst IsOfHome is home)
not-caused d p op (Cause.PageCame a) is home = not-call op (task_of d p) (open_call_of d p) home is
not-caused d p op (Cause.AnswerCame a) is home = not-call op (task_of d p) (open_call_of d p) home is
not-caused d p op (Cause.AccessFailed t) is home = not-call op (task_of d p) (open_call_of d p) home is
not-caused d p op (Cause.CallFailed call) is home = not-call op (task_of d p) (open_call_of d p) home is

desk-home : (op : Op) (to : ℕ) → (IsOfHome op → ⊥) → IsOpAtHome op to
desk-home (ops.New home kind room) to none = absurd (none tt)
desk-home (ops.List home after) to none = absurd (none tt)
desk-home (ops.Lock u m) to none = tt
desk-home (ops.Unlock u) to none = tt
desk-home (ops.Delete u) to none = tt
desk-home (ops.Load spot count) to none = tt
desk-home (ops.Store spot bytes) to none = tt
desk-home (ops.Length u) to none = tt
desk-home (ops.Map u) to none = tt
desk-home (ops.Unmap u) to none = tt

abbrev IsOpTurn : Op → Turn → Type 0
IsOpTurn op (Turn.Ends reply) = Unit {0}
IsOpTurn op (Turn.Asks home ask) = IsAtHome home ask × IsOpAtHome op home
IsOpTurn op (Turn.Waits u k) = Unit {0}

module _ (opening : Start) (incoming : Incoming) (doing : Option OpenOp) (stage : Stage) where
  home-turn : (p : ℕ) (op : Op) (turn : Turn) → IsHomeTurn opening incoming p doing stage op turn → IsOpTurn op turn
  home-turn p op (Turn.Ends reply) is = tt
  home-turn p op (Turn.Waits u k) is = tt
  home-turn p op (Turn.Asks to ask) is = home-ask op to ask (home-asks opening incoming p doing stage op to ask is)

  desk-turn : (op : Op) (turn : Turn) → (IsOfHome op → ⊥) → IsTurnAtHome turn → IsOpTurn op turn
  desk-turn op (Turn.Ends reply) none is = tt
  desk-turn op (Turn.Waits u k) none is = tt
  desk-turn op (Turn.Asks to ask) none is = (is, desk-home op to none)

  move-home : (d : DeskState) (p : ℕ) (op : Op) (m : Moved) → OpMove opening incoming doing stage d p op m → IsOpTurn op m.turn
  move-home d p op m (apart desk turn) = home-turn p op m.turn turn
  move-home d p op m (moves c may of at_stage taken made) = desk-turn op m.turn (not-caused d p op c of) (said-home d m.desk p c m.turn made.says)

turn-open : (o : BegunOp) (q : ProcState) (turn : Turn) → IsOpTurn o.op turn → IsOpenAtHome (doing_after o q turn)
turn-open o q (Turn.Ends reply) is = tt
turn-open o q (Turn.Asks home ask) is = is
turn-open o q (Turn.Waits u k) is = tt

same-open : (o r : Option OpenOp) → IsSameDoing o r → IsOpenAtHome o → IsOpenAtHome r
same-open None None same is = tt
same-open None (Some r) same is = absurd same
same-open (Some o) None same is = absurd same
same-open (Some o) (Some r) same is = by o.awaits r.awaits same.1 (subst (λ (b : BegunOp). IsAwaitAtHome b.op o.awaits) (sym same.0) is)
  where
    by : (a b : Await) → IsSameAwait a b → IsAwaitAtHome r.began.op a → IsAwaitAtHome r.began.op b
    by (Await.Answer c) (Await.Answer k) same is = (subst (IsAtHome k.home) (sym same.1) (subst (λ h. IsAtHome h c.ask) (sym same.0) is.0), subst (IsOpAtHome r.began.op) (sym same.0) is.1)
    by (Await.Answer c) (Await.Page u k) same is = absurd same
    by (Await.Page u k) (Await.Answer c) same is = absurd same
    by (Await.Page u k) (Await.Page v j) same is = tt

node-home : (g : Given) (n : NodeState) (incoming : Incoming) (s : Stepped) → NodeMove g n incoming s → AreOpenAtHomes n → AreOpenAtHomes s.node
node-home g n incoming s (still desk same quiet uncalled) at q other = same-open (proc_of n q).doing (proc_of s.node q).doing (same q other) (at q other)
node-home g n incoming s (moved p o stage m proc continues made desk doing others note call side) at q other = elim (cases_eq q p) [
  | inl there ↦ subst (λ r. IsOpenAtHome (proc_of s.node r).doing) (sym there) (subst IsOpenAtHome (sym doing) (turn-open o (proc_of n p) m.turn (move-home g.opening incoming (proc_of n p).doing stage n.desk p o.op m made)))
  | inr beside ↦ subst (λ (x : ProcState). IsOpenAtHome x.doing) (sym (others q other beside)) (at q other)
]

-- of each node of a run, and of each call that was made
pub record AreAtHomes (s : Setup) (w : World) : Type 0 where
  pub opened : (n : ℕ) → is_node s.opening n ≡ true → AreOpenAtHomes (w.nodes n)
  pub calls : AreCallsAtHomes w

module _ (s : Setup) (setup : IsSetup s) (old : World) (c : Choice) (new : World) (next : IsKeptNext s old c new) (at : AreAtHomes s old) where
  open event s old c new next use {step}

  abbrev m : NodeState
  m = ticked (old.nodes c.node) next.is.incoming

  here : AreOpenAtHomes step.node
  here = node-home (given s c.node) m next.is.incoming step
      (desk-moves s setup old c new next)
      (at.opened c.node next.is.node)

  calls-step : CallStep (given s c.node) m step
  calls-step = did-calls (given s c.node) m (next.calls.four c.node) (setup-procs s setup c.node) c.what next.is.incoming step
      (incoming-is IsFrameProc tt (λ i tick. tt) (λ tick. tt) (λ x. IsProc x.proc) (λ x is. is) old c.node
      (λ from. EachOf-more (IsOnLink old.calls from c.node) (λ (x : Message). IsProc x.proc) (old.frames from c.node) (λ x is. is.proc) (next.calls.frames from c.node)) c.what next.is.incoming next.is.comes)
      (event-did s old c new next)

  abbrev Each : List Asked → Type 0
  Each xs = EachOf (λ (k : Asked). IsAtHome k.home k.ask) xs

  one-more : (p : ℕ) (k : Asked) → IsAtHome k.home k.ask → (a q : ℕ) → Each (calls_after old c.node (Some (p, k)) a q)
  one-more p k is a q = elim (cases_eq a c.node) [
    | inr away ↦ subst (λ (f : ℕ → List Asked). Each (f q)) (sym (put-other old.calls c.node a _ away)) (at.calls a q)
    | inl there ↦ subst (λ (f : ℕ → List Asked). Each (f q)) (sym (put-same old.calls c.node a _ there)) (elim (cases_eq q p) [
      | inr beside ↦ subst Each (sym (put-other (old.calls c.node) p q _ beside)) (at.calls c.node q)
      | inl same ↦ subst Each (sym (put-same (old.calls c.node) p q _ same)) (is, at.calls c.node p)
    ])
  ]

  calls-now : (a q : ℕ) → Each (calls_after old c.node step.call a q)
  calls-now a q = elim calls-step [
    | silent none reply stay four ↦ subst (λ o. Each (calls_after old c.node o a q)) (sym none) (at.calls a q)
    | again p o k owner was none frame last now others four ↦ subst (λ x. Each (calls_after old c.node x a q)) (sym none) (at.calls a q)
    | asked p o k owner number made frame last now others four ↦ subst (λ x. Each (calls_after old c.node x a q)) (sym made) (one-more p k (subst IsOpenAtHome now (here p owner)).0 a q)
  ]

  homes-later : AreAtHomes s new
  homes-later = subst (AreAtHomes s) (sym next.is.world) (record {
    opened = λ a node. elim (cases_eq a c.node) [
      | inl there ↦ subst AreOpenAtHomes (sym (put-same old.nodes c.node a step.node there)) here
      | inr away ↦ subst AreOpenAtHomes (sym (put-other old.nodes c.node a step.node away)) (at.opened a node)
    ];
    calls = calls-now;
  })

-- in every run
homes-are : (s : Setup) → IsSetup s → (cs : List Choice) (w : World) → world_after s cs ≡ Some w → IsTimely w → AreAtHomes s w
homes-are s setup = every-kept-run s setup (setup-procs s setup) (AreAtHomes s)
    (record { opened = λ n node. by_proc (λ p. IsOpenAtHome (proc_of (first_node (given s n)) p).doing) tt tt tt tt; calls = λ n p. tt })
    (λ cs old c new e timely next at. homes-later s setup old c new next at)

pub opens-at-homes : (s : Setup) → IsSetup s → (cs : List Choice) (w : World) → world_after s cs ≡ Some w → IsTimely w → (n : ℕ) → is_node s.opening n ≡ true → AreOpenAtHomes (w.nodes n)
opens-at-homes s setup cs w e timely = (homes-are s setup cs w e timely).opened

pub calls-at-homes : (s : Setup) → IsSetup s → (cs : List Choice) (w : World) → world_after s cs ≡ Some w → IsTimely w → AreCallsAtHomes w
calls-at-homes s setup cs w e timely = (homes-are s setup cs w e timely).calls
