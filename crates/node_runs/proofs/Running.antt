-- In every run each node keeps what each node keeps, and each frame that was sent is one, of the version of the run.
use Rattle.std.proofs.Common.{◌≡◌, ◌≢◌, ℕ, ◌+◌, ◌≤◌, true, List, Option, Some, None, IfSome, inl, inr, refl, sym, ap, subst, arith}
use Rattle.std.specs.Prelude.{◌^◌, nat_le, ◌&&◌, max}
use Rattle.std.proofs.lemmas.Bool.{cases_eq}
use Rattle.std.proofs.lemmas.Bool.Decides.{nat_tests}
use Rattle.std.proofs.lemmas.List.Elements.{All-nil}
use Rattle.uid_names.specs.Names.{IsName, ObjectName}
use Rattle.dom_history.specs.declared.event.What.{What}
use Rattle.dom_history.specs.Events.{IsWhat, IsEvent}
use Rattle.dom_history.specs.Objects.{is_node}
use Rattle.fault_handler.specs.Invariant.{IsProc}
use Rattle.call_once.specs.Calls.{Call}
use Rattle.ring_messages.specs.Bodies.{Ask, Answer, body_of_ask}
use Rattle.ring_messages.specs.Frames.{Message, IsInRange, caller_of}
use Rattle.fault_handler.specs.Desks.{DeskState}
use Rattle.fault_handler.specs.Outcomes.{Turn, Moved}
use Rattle.node_runs.specs.Setups.{Setup, Given, given, IsSetup}
use Rattle.node_runs.specs.NodeStates.{BegunOp, NodeState}
use Rattle.node_runs.specs.Incomings.{Incoming, tick_of, has_program}
use Rattle.node_runs.specs.Outcomes.{Stepped, Stage, turned, moved}
use Rattle.node_runs.specs.Doings.{begun_at, stage_of, ticked}
use Rattle.node_runs.specs.Dones.{Did, paused, finished, began, resumed, served, passed_over, heard, ignored, resent, gave_up, got_ready, marked}
use Rattle.node_runs.specs.Steps.{step_of}
use Rattle.node_runs.specs.Runs.{World, first_world, Choice, put, frames_after, world_with, world_after}
use Rattle.node_runs.specs.CallsKeep.{EachOf}
use Rattle.node_runs.specs.SentFrames.{IsNamedBody, IsFrame, IsIncoming, AreFrames, IsOfWire, AreOfWire}
use Rattle.node_runs.specs.NodesKeep.{IsNodeOf, IsCounted, IsTimely}
use Rattle.node_runs.proofs.Doing.{step_of-did, step_of-version}
use Rattle.node_runs.proofs.Sides.{did-side}
use Rattle.node_runs.proofs.Counts.{step_of-counted, first-counted}
use Rattle.node_runs.proofs.Ticks.{step_of-tick}
use Rattle.node_runs.proofs.Homes.{AreNamed, IsNamedAnswer, served-named, told-named}
use Rattle.node_runs.proofs.Nodes.{Keeps}
use Rattle.node_runs.proofs.Reaching.{step_of-keeps, IsNodeOf-first}
use Rattle.node_runs.proofs.Worlds.{IsNext, place_at, every-run}
use Rattle.node_runs.proofs.Receiving.{incoming-is}
use Rattle.node_runs.proofs.Calls.{put-same, put-other, frames-one}
use Rattle.node_runs.proofs.SettingUp.{given-procs, setup-gives}

-- a request tells of no object that was made
ask-named : (ask : Ask) → IsNamedBody (body_of_ask ask)
ask-named (Ask.PageIn u k) = tt
ask-named (Ask.PageOut u k grant base bytes) = tt
ask-named (Ask.AttrOut u n grant base) = tt
ask-named (Ask.Lock u m) = tt
ask-named (Ask.Unlock u) = tt
ask-named (Ask.Remove u) = tt
ask-named (Ask.Make kind room) = tt
ask-named (Ask.ListLocks after) = tt

abbrev SendsNamed : Stepped → Type 0
SendsNamed s = IfSome s.frame (λ m. IsNamedBody m.body)

module _ (g : Given) (n : NodeState) where
  turned-named : (p : ℕ) (o : BegunOp) (stage : Stage) (d : DeskState) (turn : Turn) → SendsNamed (turned g (record n { desk = d }) p o stage turn)
  turned-named p o stage d (Turn.Ends reply) = tt
  turned-named p o stage d (Turn.Asks home ask) = ask-named ask
  turned-named p o stage d (Turn.Waits u k) = tt

  moved-named : (p : ℕ) (o : BegunOp) (stage : Stage) (m : Moved) → SendsNamed (moved g n p o stage m)
  moved-named p o stage m = turned-named p o stage m.desk m.turn

  module _ (named : AreNamed n.side) (next : IsName (record { counter = n.side.home.greatest + 1; home = n.side.home.node })) where
    -- what a node sends names what it tells of
    did-sends : (what : What) (incoming : Incoming) (s : Stepped) → Did g n what incoming s → SendsNamed s
    did-sends what incoming s (paused p has none is) = tt
    did-sends what incoming s (finished p has none is) = tt
    did-sends what incoming s (began p op to has none is may) = moved-named p (begun_at g n op) Stage.Starts to
    did-sends what incoming s (resumed p o u k accessed to has is come goes may) = moved-named p o Stage.Resumes to
    did-sends what incoming s (served from index m ask answer sender receiver asks is) = told-named n.side (caller_of m) m.number ask named next answer is
    did-sends what incoming s (passed_over from index m ask sender receiver asks is) = tt
    did-sends what incoming s (heard from index m o c said to sender receiver asks is same says may) = moved-named m.proc o (stage_of m.number said) to
    did-sends what incoming s (ignored from index m sender receiver asks) = tt
    did-sends what incoming s (resent p from to index number tick o c has is same answer) = ask-named c.ask
    did-sends what incoming s (gave_up p from to index number tick o c into has is same answer fails) = moved-named p o (Stage.Settles c.waiting.number) into
    did-sends what incoming s (got_ready phase may) = tt
    did-sends what incoming s (marked from phase tick may) = tt

    did-named : (what : What) (incoming : Incoming) (s : Stepped) → Did g n what incoming s → AreNamed s.node.side
    did-named what incoming s did = did-side g n AreNamed named what incoming s (λ m ask comes receiver asks. served-named n.side (caller_of m) m.number ask named next) did

-- what a node sends is of its version
abbrev pub SendsVersion : ℕ → Stepped → Type 0
SendsVersion wire s = IfSome s.frame (λ m. m.version ≡ wire)

module _ (g : Given) (n : NodeState) where
  turned-version : (p : ℕ) (o : BegunOp) (stage : Stage) (d : DeskState) (turn : Turn) → SendsVersion g.wire (turned g (record n { desk = d }) p o stage turn)
  turned-version p o stage d (Turn.Ends reply) = tt
  turned-version p o stage d (Turn.Asks home ask) = refl
  turned-version p o stage d (Turn.Waits u k) = tt

  moved-version : (p : ℕ) (o : BegunOp) (stage : Stage) (m : Moved) → SendsVersion g.wire (moved g n p o stage m)
  moved-version p o stage m = turned-version p o stage m.desk m.turn

  did-version : (what : What) (incoming : Incoming) (s : Stepped) → IsOfWire g.wire incoming → Did g n what incoming s → SendsVersion g.wire s
  did-version what incoming s version (paused p has none is) = tt
  did-version what incoming s version (finished p has none is) = tt
  did-version what incoming s version (began p op to has none is may) = moved-version p (begun_at g n op) Stage.Starts to
  did-version what incoming s version (resumed p o u k accessed to has is come goes may) = moved-version p o Stage.Resumes to
  did-version what incoming s version (served from index m ask answer sender receiver asks is) = version
  did-version what incoming s version (passed_over from index m ask sender receiver asks is) = tt
  did-version what incoming s version (heard from index m o c said to sender receiver asks is same says may) = moved-version m.proc o (stage_of m.number said) to
  did-version what incoming s version (ignored from index m sender receiver asks) = tt
  did-version what incoming s version (resent p from to index number tick o c has is same answer) = refl
  did-version what incoming s version (gave_up p from to index number tick o c into has is same answer fails) = moved-version p o (Stage.Settles c.waiting.number) into
  did-version what incoming s version (got_ready phase may) = tt
  did-version what incoming s version (marked from phase tick may) = tt

pub step_of-sends-version : (g : Given) (n : NodeState) (what : What) (incoming : Incoming) (dropped : List (ObjectName × ℕ)) (s : Stepped) → step_of g n what incoming dropped ≡ Some s → SendsVersion g.wire s
step_of-sends-version g n what incoming dropped s e =
    did-version g (ticked n incoming) what incoming s (step_of-version g n what incoming dropped s e) (step_of-did g n what incoming dropped s e)

-- the process that an event names is one that has a program
did-what : (g : Given) → ((p : ℕ) → has_program g p ≡ true → IsProc p) → (n : NodeState) (what : What) (incoming : Incoming) (s : Stepped) → Did g n what incoming s → IsWhat what
did-what g procs n what incoming s (paused p has none is) = procs p has
did-what g procs n what incoming s (finished p has none is) = procs p has
did-what g procs n what incoming s (began p op to has none is may) = procs p has
did-what g procs n what incoming s (resumed p o u k accessed to has is come goes may) = procs p has
did-what g procs n what incoming s (served from index m ask answer sender receiver asks is) = tt
did-what g procs n what incoming s (passed_over from index m ask sender receiver asks is) = tt
did-what g procs n what incoming s (heard from index m o c said to sender receiver asks is same says may) = tt
did-what g procs n what incoming s (ignored from index m sender receiver asks) = tt
did-what g procs n what incoming s (resent p from to index number tick o c has is same answer) = procs p has
did-what g procs n what incoming s (gave_up p from to index number tick o c into has is same answer fails) = procs p has
did-what g procs n what incoming s (got_ready phase may) = tt
did-what g procs n what incoming s (marked from phase tick may) = tt

-- one node is another, the others stay
put-each : (P : ℕ → NodeState → Type 0) (nodes : ℕ → NodeState) (k : ℕ) (x : NodeState) → P k x → ((a : ℕ) → a ≢ k → P a (nodes a)) → (a : ℕ) → P a (put nodes k x a)
put-each P nodes k x here others a = elim (cases_eq a k) [
  | inl same ↦ subst (P a) (sym (put-same nodes k a x same)) (subst (λ b. P b x) (sym same) here)
  | inr differs ↦ subst (P a) (sym (put-other nodes k a x differs)) (others a differs)
]

pub record AreKept (s : Setup) (w : World) : Type 0 where
  pub nodes : (n : ℕ) → is_node s.opening n ≡ true → IsNodeOf (given s n) (w.nodes n)
  pub named : (n : ℕ) → is_node s.opening n ≡ true → AreNamed (w.nodes n).side
  pub frames : AreFrames w
  pub events : EachOf IsEvent w.done

pub record RunKeeps (s : Setup) (w : World) : Type 0 where
  pub counted : (n : ℕ) → IsCounted (w.nodes n)
  pub wire : AreOfWire s.wire w
  pub kept : IsTimely w → AreKept s w

module _ (s : Setup) (setup : IsSetup s) where
  run-first : RunKeeps s (first_world s)
  run-first = record {
    counted = λ n. first-counted s setup n;
    wire = λ from to. tt;
    kept = λ timely. record {
      nodes = λ n node. IsNodeOf-first (given s n) (setup-gives s setup n node);
      named = λ n node. All-nil (λ (call : Call Answer). IsNamedAnswer call.body);
      frames = λ from to. tt;
      events = tt;
    };
  }

  module _ (old : World) (c : Choice) (new : World) (is : IsNext s old c new) (keeps : RunKeeps s old) where
    abbrev g : Given
    g = given s c.node

    abbrev after : World
    after = world_with old (place_at c is.step) c.what is.step

    tick-is : is.step.node.tick ≡ max (old.nodes c.node).tick (tick_of is.incoming) + 1
    tick-is = step_of-tick g (old.nodes c.node) c.what is.incoming c.dropped is.step is.steps

    -- each frame is of the version of the run
    wire-kept : (o : Option Message) → is.step.frame ≡ o → (from to : ℕ) → EachOf (λ (m : Message). m.version ≡ s.wire) (frames_after old c.node o from to)
    wire-kept None same = keeps.wire
    wire-kept (Some m) same =
        let version : m.version ≡ s.wire = subst (λ (f : Option Message). IfSome f (λ x. x.version ≡ s.wire)) same
        (step_of-sends-version g (old.nodes c.node) c.what is.incoming c.dropped is.step is.steps) in
        frames-one old c.node m (λ from to x. x.version ≡ s.wire) version keeps.wire

    -- ticks never fall
    timely-before : IsTimely after → IsTimely old
    timely-before timely a = elim (cases_eq a c.node) [
      | inl same ↦ let e = ap (λ (x : NodeState). x.tick) (put-same old.nodes c.node a is.step.node same) in let f = timely a in let h = ap (λ b. (old.nodes b).tick) same in let k = tick-is in omega (arith, e, f, h, k)
      | inr differs ↦ let e = ap (λ (x : NodeState). x.tick) (put-other old.nodes c.node a is.step.node differs) in let f = timely a in omega (arith, e, f)
    ]

    module _ (timely : IsTimely after) where
      before : AreKept s old
      before = keeps.kept (timely-before timely)

      own-tick : is.step.node.tick ≤ 2 ^ 40
      own-tick = let e = ap (λ (x : NodeState). x.tick) (put-same old.nodes c.node c.node is.step.node refl) in let f = timely c.node in omega (arith, e, f)

      -- the next object that its home makes has a name
      next-name : IsName (record { counter = (old.nodes c.node).side.home.greatest + 1; home = (old.nodes c.node).side.home.node })
      next-name =
          let home = (before.nodes c.node is.node).home in
          let counters = (keeps.counted c.node).side.counters in
          let tick = tick-is in
          let most = own-tick in
          let nodes = setup.start.nodes_high in
          let node : (nat_le 1 c.node && nat_le c.node s.opening.nodes) ≡ true = is.node in
          record {
            counter_low = omega arith;
            counter_high = omega (arith, counters, tick, most);
            home_low = grind (arith, nat_tests, node, home);
            home_high = grind (arith, nat_tests, node, home, nodes);
          }

      received : IsIncoming is.incoming
      received = incoming-is IsIncoming tt (λ number tick. tt) (λ tick. tt) IsFrame (λ m frame. frame) old c.node (λ from. before.frames from c.node) c.what is.incoming is.comes

      did : Did g (ticked (old.nodes c.node) is.incoming) c.what is.incoming is.step
      did = step_of-did g (old.nodes c.node) c.what is.incoming c.dropped is.step is.steps

      step-keeps : Keeps g is.step
      step-keeps = step_of-keeps g (old.nodes c.node) c.what is.incoming c.dropped is.step (setup-gives s setup c.node is.node) (before.nodes c.node is.node) received is.steps

      frames-kept : (o : Option Message) → is.step.frame ≡ o → (from to : ℕ) → EachOf IsFrame (frames_after old c.node o from to)
      frames-kept None same = before.frames
      frames-kept (Some m) same =
          let range : IsInRange m = subst (λ (f : Option Message). IfSome f IsInRange) same step-keeps.frame in
          let name : IsNamedBody m.body = subst (λ (f : Option Message). IfSome f (λ x. IsNamedBody x.body)) same
          (did-sends g (ticked (old.nodes c.node) is.incoming) (before.named c.node is.node) next-name c.what is.incoming is.step did) in
          frames-one old c.node m (λ from to. IsFrame) (record { range = range; named = name }) before.frames

      kept-after : AreKept s after
      kept-after = record {
        nodes = λ n node. put-each (λ a x. is_node s.opening a ≡ true → IsNodeOf (given s a) x) old.nodes c.node is.step.node (λ h. step-keeps.node) (λ a differs h. before.nodes a h) n node;
        named = λ n node. put-each (λ a x. is_node s.opening a ≡ true → AreNamed x.side) old.nodes c.node is.step.node
            (λ h. did-named g (ticked (old.nodes c.node) is.incoming) (before.named c.node is.node) next-name c.what is.incoming is.step did) (λ a differs h. before.named a h) n node;
        frames = frames-kept is.step.frame refl;
        events = (record { what = did-what g (given-procs g (setup-gives s setup c.node is.node).programs) (ticked (old.nodes c.node) is.incoming) c.what is.incoming is.step did; effects = step-keeps.effects }, before.events);
      }

    run-later : RunKeeps s new
    run-later = subst (RunKeeps s) (sym is.world) (record {
      counted = put-each (λ a x. IsCounted x) old.nodes c.node is.step.node (step_of-counted g (old.nodes c.node) c.what is.incoming c.dropped is.step (keeps.counted c.node) is.steps) (λ a differs. keeps.counted a);
      wire = wire-kept is.step.frame refl;
      kept = kept-after;
    })

  pub run-keeps : (cs : List Choice) (w : World) → world_after s cs ≡ Some w → RunKeeps s w
  run-keeps = every-run s (RunKeeps s) run-first run-later
