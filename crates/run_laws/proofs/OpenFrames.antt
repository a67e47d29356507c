-- Each open call has a frame on its way, in every world to which turns led.
use Rattle.std.proofs.Common.{◌≡◌, ℕ, Bool, true, false, List, [], ◌∷◌, map, Option, Some, None, inl, inr, refl, sym, ap, subst, ◌∙◌}
use Rattle.std.specs.Prelude.{◌^◌, ◌≤◌, is_some}
use Rattle.std.proofs.lemmas.Bool.{cases_eq}
use Rattle.std.proofs.lemmas.Option.{same_Some}
use Rattle.uid_names.specs.Names.{ProcName, same_proc}
use Rattle.uid_names.proofs.Orders.{same_proc_is}
use Rattle.uid_names.proofs.Somes.{bind-some}
use Rattle.dom_history.specs.declared.event.What.{What}
use Rattle.dom_history.specs.declared.event.What.TheVariants.{Take, Notice}
use Rattle.dom_history.specs.declared.plan.FateRow.{FateRow}
use Rattle.dom_history.specs.Objects.{is_node}
use Rattle.ring_messages.specs.Bodies.{Answer, ask_of, body_of_answer}
use Rattle.ring_messages.specs.Frames.{Message, caller_of}
use Rattle.page_server.specs.Serving.{serve_of}
use Rattle.fault_handler.specs.Invariant.{IsProc}
use Rattle.fault_handler.proofs.Fours.{by_proc}
use Rattle.node_runs.specs.Agreements.{IsDoing, Agrees}
use Rattle.node_runs.specs.Setups.{Setup, IsSetup, given}
use Rattle.node_runs.specs.NodeStates.{Asked, Await, BegunOp, NodeState, first_node, proc_of}
use Rattle.node_runs.specs.Incomings.{Incoming}
use Rattle.node_runs.specs.Operations.{said_of}
use Rattle.node_runs.specs.Doings.{ticked}
use Rattle.node_runs.specs.Dones.{Did, asking}
use Rattle.node_runs.specs.Steps.{step_of}
use Rattle.node_runs.specs.NodesKeep.{IsNodeOf, IsTimely}
use Rattle.node_runs.specs.Runs.{World, first_world, choice_of, numbered, taken, told_if, told_of, incoming_of}
use Rattle.node_runs.proofs.Calls.{put-same, put-other}
use Rattle.node_runs.proofs.CallSteps.{IsUnasking, did-calls, frame-proc}
use Rattle.node_runs.proofs.Doing.{step_of-did}
use Rattle.node_runs.proofs.SettingUp.{setup-procs}
use Rattle.run_laws.specs.DecidedReplies.{proc_at}
use Rattle.run_laws.specs.FittingAnswers.{CanAnswer}
use Rattle.run_laws.specs.OpenDecisions.{IsRight}
use Rattle.world_runs.specs.ByPlace.{by_place}
use Rattle.world_runs.specs.Gone.{FrameName}
use Rattle.world_runs.specs.Turns.{turn, after_turns}
use Rattle.world_runs.proofs.Happening.{nodes-kept, received-kept}
use Rattle.world_runs.proofs.Merging.{Merged}
use Rattle.world_runs.proofs.Noticing.{AreWithin, turns-within}
use Rattle.world_runs.proofs.Receiving.{frame-forth}
use Rattle.world_runs.proofs.TimelyTurns.{IsTimelyTurn, timely-turn}
use Rattle.world_runs.proofs.Turning.{turn-is, node-after, timely-before}
use Rattle.run_laws.specs.FramesOfCalls.{IsOfCall}
use Rattle.run_laws.specs.OpenFrames.{HasFrame, HaveFrames}
use Rattle.run_laws.proofs.AnsweredCalls.{open-answered}
use Rattle.run_laws.proofs.Callers.{answered-is}
use Rattle.run_laws.proofs.CallFrames.{IsFrameOf, requests, replies, frame-of}
use Rattle.run_laws.proofs.FittingReplies.{answer-told}
use Rattle.run_laws.proofs.SentAgain.{TellsOf, AnswersIt, did-tells, did-answers, sent-or-same, reply-sends}
use Rattle.run_laws.proofs.SentFrames.{turned, done-after, frames-after, takes-oldest, sends-frame}
use Rattle.run_laws.proofs.WaitingNext.{Next, stays, takes, tells, waiting-next, untold-next}

told-same : (b : Bool) (m : Message) (i : Incoming) → told_if b m ≡ Some i → b ≡ true
told-same true m i e = refl
told-same false m i e = absurd (cc)

module _ (s : Setup) (setup : IsSetup s) (plan : List FateRow) where
  -- what a frame of an open call is, in a world of turns
  module _ (w : World) (merged : Merged s w) (timely : IsTimely w) (n p : ℕ) (node : is_node s.opening n ≡ true) (proc : IsProc p) (o : BegunOp) (c : Asked) (doing : (proc_of (w.nodes n) p).doing ≡ asking o c) where
    timely-run : IsTimely merged.world
    timely-run m = subst (λ (x : NodeState). x.tick ≤ 2 ^ 40) (merged.like.nodes m) (timely m)

    doing-run : (proc_of (merged.world.nodes n) p).doing ≡ asking o c
    doing-run = ap (λ (x : NodeState). (proc_of x p).doing) (sym (merged.like.nodes n)) ∙ doing

    pub call-frame : (f : FrameName) (m : Message) → numbered f.2 (w.frames f.0 f.1) ≡ Some m → IsOfCall (proc_at n p) c.waiting.number (Some m) → IsFrameOf n c f.0 f.1 m
    call-frame f m found call =
        frame-of s setup (map choice_of (by_place w.done)) merged.world merged.run timely-run n p node proc o c doing-run f.0 f.1 f.2 m
        (ap (λ (xs : List Message). numbered f.2 xs) (sym (merged.like.frames f.0 f.1)) ∙ found) call

    answered-now : is_some (serve_of (w.nodes c.home).side (proc_at n p) c.waiting.number c.ask).answer ≡ true
    answered-now =
        ap (λ (x : NodeState). is_some (serve_of x.side (proc_at n p) c.waiting.number c.ask).answer) (merged.like.nodes c.home)
        ∙ open-answered s setup (map choice_of (by_place w.done)) merged.world merged.run timely-run n p node proc (record { began = o; awaits = Await.Answer c }) doing-run c refl

  module _ (old new : World) (turn : IsTimelyTurn s plan old new) (within : AreWithin s setup plan old) (before : HaveFrames s plan old)
      (n p : ℕ) (node : is_node s.opening n ≡ true) (proc : IsProc p) (o : BegunOp) (c : Asked) (now : (proc_of (new.nodes n) p).doing ≡ asking o c) where
    abbrev k : ℕ
    k = turn.is.act.node

    abbrev what : What
    what = turn.is.act.what

    abbrev incoming : Incoming
    incoming = turn.is.incoming

    abbrev x : NodeState
    x = ticked (old.nodes k) incoming

    kept-node : IsNodeOf (given s k) (old.nodes k)
    kept-node = nodes-kept s setup old turn.merged turn.timely k turn.is.node

    did : Did (given s k) x what incoming turn.is.step
    did = step_of-did (given s k) (old.nodes k) what incoming turn.is.step.effects.dropped turn.is.step turn.steps

    -- a frame of it that the event sends
    sent : IsOfCall (proc_at n p) c.waiting.number turn.is.step.frame → HasFrame plan new (proc_at n p) c.waiting.number
    sent = sends-frame s plan old new turn within.delivered within.within (proc_at n p) c.waiting.number

    now-here : n ≡ k → (proc_of turn.is.step.node p).doing ≡ asking o c
    now-here same = ap (λ (y : NodeState). (proc_of y p).doing) (sym (node-after s plan old new turn.is n ∙ put-same old.nodes k n turn.is.step.node same)) ∙ now

    module _ (doing : (proc_of (old.nodes n) p).doing ≡ asking o c) (f : FrameName) (m : Message) (found : numbered f.2 (old.frames f.0 f.1) ≡ Some m) (call : IsOfCall (proc_at n p) c.waiting.number (Some m)) where
      module _ (is : what ≡ Take f.0 f.2) (there : k ≡ f.1) where
        comes : incoming ≡ Incoming.Frame m
        comes = sym (same_Some (Incoming.Frame m) incoming
            (sym (ap (incoming_of old k) is ∙ ap (λ j. taken (numbered f.2 (old.frames f.0 j))) there ∙ ap taken found) ∙ turn.is.receives))

        -- its request is answered
        request-taken : f.1 ≡ c.home → ask_of m.body ≡ Some c.ask → HasFrame plan new (proc_at n p) c.waiting.number
        request-taken to asks =
            let answers = subst (λ (i : Incoming). AnswersIt (given s k) x kept-node.four i turn.is.step) comes (did-answers (given s k) x kept-node.four what incoming turn.is.step did) in
            let some = subst (λ j. is_some (serve_of (old.nodes j).side (proc_at n p) c.waiting.number c.ask).answer ≡ true) (sym (there ∙ to)) (answered-now old turn.merged turn.timely n p node proc o c doing) in
            let also = subst (λ (q : ProcName). is_some (serve_of (old.nodes k).side q m.number c.ask).answer ≡ true) (sym call.0)
            (subst (λ i. is_some (serve_of (old.nodes k).side (proc_at n p) i c.ask).answer ≡ true) (sym call.1) some) in
            sent (subst (λ (q : ProcName). IsOfCall q c.waiting.number turn.is.step.frame) call.0 (subst (λ i. IsOfCall (caller_of m) i turn.is.step.frame) call.1 (answers c.ask asks also)))

        -- a reply ends it
        reply-taken : (answer : Answer) → f.1 ≡ n → ask_of m.body ≡ None → m.body ≡ body_of_answer answer → CanAnswer c.ask answer → IsRight c.ask answer → HasFrame plan new (proc_at n p) c.waiting.number
        reply-taken answer to asks body can right =
            let own : m.proc ≡ p = ap (λ (q : ProcName). q.number) (sym (answered-is m answer body) ∙ call.0) in
            let here : k ≡ n = there ∙ to in
            let at : (proc_of (old.nodes k) m.proc).doing ≡ asking o c =
            subst (λ j. (proc_of (old.nodes j) m.proc).doing ≡ asking o c) (sym here) (subst (λ i. (proc_of (old.nodes n) i).doing ≡ asking o c) (sym own) doing) in
            let desk = (old.nodes k).desk in
            let last = (proc_of (old.nodes k) m.proc).last in
            let proc_m = subst IsProc (sym own) proc in
            let agrees = subst (Agrees desk m.proc last) at (kept-node.agrees m.proc proc_m) in
            let calling : IsDoing desk m.proc last o.op (Await.Answer c) = agrees.1 in
            let told = answer-told desk m.proc kept-node.desk proc_m o.op c.ask answer calling.0 can right in
            let fits = ap (said_of desk m.proc o.op) body ∙ told.1 in
            let steps = subst (λ (i : Incoming). step_of (given s k) (old.nodes k) (Take f.0 f.2) i turn.is.step.effects.dropped ≡ Some turn.is.step) comes
            (subst (λ (y : What). step_of (given s k) (old.nodes k) y incoming turn.is.step.effects.dropped ≡ Some turn.is.step) is turn.steps) in
            let then = subst (λ i. (proc_of turn.is.step.node i).doing ≡ asking o c) (sym own) (now-here (sym here)) in
            let sends = reply-sends (given s k) (old.nodes k) kept-node.four f.0 f.2 m turn.is.step.effects.dropped turn.is.step steps proc_m asks o c at call.1 told.0 fits o c then in
            sent (subst (λ j. IsOfCall (proc_at j p) c.waiting.number turn.is.step.frame) here (subst (λ i. IsOfCall (proc_at k i) c.waiting.number turn.is.step.frame) own sends))

        taken-next : IsFrameOf n c f.0 f.1 m → HasFrame plan new (proc_at n p) c.waiting.number
        taken-next (requests from to asks) = request-taken to asks
        taken-next (replies answer to from asks body can right) = reply-taken answer to asks body can right

      -- at its notice it is sent again, or ends
      told-next : (q : ℕ) → what ≡ Notice q f.0 f.1 f.2 → HasFrame plan new (proc_at n p) c.waiting.number
      told-next q is =
          let receives : told_if (same_proc (caller_of m) (proc_at k q)) m ≡ Some incoming = sym (ap (incoming_of old k) is ∙ ap (told_of (proc_at k q)) found) ∙ turn.is.receives in
          let caller : proc_at k q ≡ proc_at n p = sym (same_proc_is (caller_of m) (proc_at k q) (told-same (same_proc (caller_of m) (proc_at k q)) m incoming receives)) ∙ call.0 in
          let here : k ≡ n = ap (λ (r : ProcName). r.node) caller in
          let own : q ≡ p = ap (λ (r : ProcName). r.number) caller in
          let tells = subst (λ (y : What). TellsOf (given s k) x kept-node.four y turn.is.step) is (did-tells (given s k) x kept-node.four what incoming turn.is.step did) in
          let sends = tells (subst IsProc (sym own) proc) o c (subst (λ i. (proc_of turn.is.step.node i).doing ≡ asking o c) (sym own) (now-here (sym here))) in
          sent (subst (λ (r : ProcName). IsOfCall r c.waiting.number turn.is.step.frame) caller sends)

      next-frame : Next plan new k what f → HasFrame plan new (proc_at n p) c.waiting.number
      next-frame (stays way) = record {
        frame = f;
        call =
            subst (IsOfCall (proc_at n p) c.waiting.number)
            (sym (ap (numbered f.2) (frames-after s plan old new turn f.0 f.1) ∙ frame-forth f.2 k m turn.is.step.frame f.0 f.1 (old.frames f.0 f.1) found)) call;
        way = way;
      }
      next-frame (takes is there) = taken-next is there (call-frame old turn.merged turn.timely n p node proc o c doing f m found call)
      next-frame (tells q is) = told-next q is

    was-open : (proc_of (old.nodes n) p).doing ≡ asking o c → HasFrame plan new (proc_at n p) c.waiting.number
    was-open doing = by (numbered had.frame.2 (old.frames had.frame.0 had.frame.1)) refl had.call
      where
        had : HasFrame plan old (proc_at n p) c.waiting.number
        had = before n p node proc o c doing

        next : Next plan new k what had.frame
        next = elim had.way [
          | inl is ↦ (let oldest = takes-oldest s plan old new turn had.frame.0 had.frame.1 in
              waiting-next plan old new (turned s plan old new turn) (done-after s plan old new turn) had.frame (within.delivered.order had.frame.0 had.frame.1) oldest.0 oldest.1 is)
          | inr is ↦ untold-next plan old new (turned s plan old new turn) (done-after s plan old new turn) had.frame is
        ]

        by : (y : Option Message) → numbered had.frame.2 (old.frames had.frame.0 had.frame.1) ≡ y → IsOfCall (proc_at n p) c.waiting.number y → HasFrame plan new (proc_at n p) c.waiting.number
        by None found call = absurd call
        by (Some m) found call = next-frame doing had.frame m found call next

    later-frame : HasFrame plan new (proc_at n p) c.waiting.number
    later-frame = elim (cases_eq n k) [
      | inr differs ↦ was-open (ap (λ (y : NodeState). (proc_of y p).doing) (sym (node-after s plan old new turn.is n ∙ put-other old.nodes k n turn.is.step.node differs)) ∙ now)
      | inl same ↦ elim (sent-or-same (given s k) x kept-node.four turn.is.step
          (did-calls (given s k) x kept-node.four (setup-procs s setup k) what incoming turn.is.step
          (frame-proc incoming (received-kept s setup old turn.merged turn.timely k what incoming turn.is.receives)) did)
          p proc o c (now-here same)) [
            | inl sends ↦ sent (subst (λ j. IsOfCall (proc_at j p) c.waiting.number turn.is.step.frame) (sym same) sends)
            | inr was ↦ was-open (subst (λ j. (proc_of (old.nodes j) p).doing ≡ asking o c) (sym same) was)
          ]
    ]

  first-frames : HaveFrames s plan (first_world s)
  first-frames n p node proc o c is = absurd (subst IsUnasking is (by_proc (λ r. IsUnasking (proc_of (first_node (given s n)) r).doing) tt tt tt tt p proc))

  pub frames-are : (cs : List ℕ) (w : World) → after_turns s plan cs ≡ Some w → IsTimely w → HaveFrames s plan w
  frames-are [] w e timely = subst (HaveFrames s plan) (same_Some (first_world s) w e) first-frames
  frames-are (c ∷ cs) w e timely =
      let found = bind-some (after_turns s plan cs) (λ (v : World). turn s plan v c) w e in
      let is = turn-is s plan found.0 c w found.2 in
      let before = timely-before s plan found.0 w is timely in
      later-frame found.0 w (timely-turn s setup plan cs found.0 w found.1 is before) (turns-within s setup plan cs found.0 found.1 before) (frames-are cs found.0 found.1 before)
