-- In every run marks keep the phases apart: each operation of a phase began above all marks of earlier phases, and ended below its node's mark
-- of its own.
use Rattle.std.proofs.Common.{◌≡◌, ◌≢◌, ℕ, ◌+◌, ◌≤◌, ◌<◌, Bool, true, false, List, [], ◌∷◌, length, Option, Some, None, inl, inr, refl, sym, ap, subst, ◌∙◌, arith}
use Rattle.std.specs.Prelude.{◌&&◌, not, ◌==◌, if◌then◌else◌, IfSome}
use Rattle.std.specs.List.{find}
use Rattle.std.proofs.lemmas.Bool.{cases_eq, not-true}
use Rattle.std.proofs.lemmas.Option.{same_Some}
use Rattle.uid_names.proofs.ListLemmas.{by_cases}
use Rattle.uid_names.specs.declared.ids.Place.{Place}
use Rattle.uid_names.proofs.Passed.{left-true, right-true, equal}
use Rattle.dom_history.specs.declared.event.What.TheVariants.{Ready, Mark}
use Rattle.dom_history.specs.declared.op.Op.{Op}
use Rattle.dom_history.specs.declared.op.Reply.{Reply}
use Rattle.dom_history.specs.Objects.{is_node}
use Rattle.dom_history.specs.Histories.{SomeOf}
use Rattle.ring_messages.specs.Frames.{Message}
use Rattle.fault_handler.specs.Desks.{at}
use Rattle.fault_handler.specs.Invariant.{IsProc}
use Rattle.fault_handler.proofs.Fours.{by_proc}
use Rattle.node_runs.specs.Setups.{Setup, IsSetup, given}
use Rattle.node_runs.specs.NodeStates.{Asked, Await, BegunOp, OpenOp, ProcState, NodeState, first_proc, first_node, proc_of, name_of, is_ended}
use Rattle.node_runs.specs.Incomings.{Incoming, tick_of, has_program, may_happen, enabled}
use Rattle.node_runs.specs.Notes.{Told, Note}
use Rattle.node_runs.specs.Doings.{in_next_phase, others_marked, after_marks}
use Rattle.node_runs.specs.Dones.{asking}
use Rattle.node_runs.specs.NodesKeep.{IsTimely}
use Rattle.node_runs.specs.Runs.{SentMark, World, Noted, Choice, first_world, marked, mark_of, marks_after, incoming_of, world_after}
use Rattle.node_runs.specs.CallsKeep.{EachOf, IsOnLink}
use Rattle.node_runs.proofs.SettingUp.{setup-procs}
use Rattle.node_runs.proofs.Stepping.{step_of-is}
use Rattle.node_runs.proofs.Ticks.{step_of-tick}
use Rattle.node_runs.proofs.Receiving.{EachOf-more, incoming-is}
use Rattle.node_runs.proofs.Worlds.{place_at}
use Rattle.node_runs.proofs.Calls.{put-same, put-other}
use Rattle.node_runs.proofs.CallSteps.{IsFrameProc}
use Rattle.run_laws.specs.Progress.{Progress, opens, goes_on, again, did, told, pauses, is_done, IsApart, ProcStep, rests, comes}
use Rattle.run_laws.specs.DecidedReplies.{proc_at}
use Rattle.run_laws.specs.Heard.{IsDoingSince, AreHeard}
use Rattle.run_laws.proofs.HearingRuns.{IsKeptNext, n as acting, proc-step, heard-are, every-kept-run, event, event-did}
use Rattle.run_laws.specs.Phases.{IsMarkBelow, AreMarkedBelow, AreMarksAbove, IsInPhase, IsEndInPhase, IsOpenInPhase, IsProcInPhase, IsNodeInPhase, AreInPhase}
use Rattle.run_laws.proofs.PhaseSteps.{NodePhase, same, readied, took, did-node, ProcPhase, stays, works, begins, did-procs}
use Rattle.run_laws.proofs.Marking.{Grows, mark-later, marked-later, open-later, next-behind, next-taken, next-ready}

longer : {A : Type 0} (x : A) (xs : List A) → x ∷ xs ≡ xs → ⊥
longer x xs e = absurd (let f = ap (λ ys. length ys) e in omega (arith, f))

-- the mark that is taken was sent
found-mark : (from phase : ℕ) (marks : List SentMark) → IfSome (find (λ m. (m.node == from) && (m.phase == phase)) marks) (λ k. SomeOf (IsMarkBelow (k.tick + 1) from phase) marks)
found-mark from phase [] = tt
found-mark from phase (m ∷ older) = by_cases ((m.node == from) && (m.phase == phase)) (IfSome (find (λ m. (m.node == from) && (m.phase == phase)) (m ∷ older)) (λ k. SomeOf (IsMarkBelow (k.tick + 1) from phase) (m ∷ older)))
    (λ h. subst (λ b. IfSome (if b then Some m else find (λ m. (m.node == from) && (m.phase == phase)) older) (λ k. SomeOf (IsMarkBelow (k.tick + 1) from phase) (m ∷ older))) (sym h)
    (inl (equal m.node from (left-true _ _ h), equal m.phase phase (right-true (m.node == from) _ h), omega arith)))
    (λ h. subst (λ b. IfSome (if b then Some m else find (λ m. (m.node == from) && (m.phase == phase)) older) (λ k. SomeOf (IsMarkBelow (k.tick + 1) from phase) (m ∷ older))) (sym h)
    (later (find (λ m. (m.node == from) && (m.phase == phase)) older) (found-mark from phase older)))
  where
    later : (o : Option SentMark) → IfSome o (λ k. SomeOf (IsMarkBelow (k.tick + 1) from phase) older) → IfSome o (λ k. SomeOf (IsMarkBelow (k.tick + 1) from phase) (m ∷ older))
    later None is = tt
    later (Some k) is = inr is

taken-mark : (o : Option SentMark) (from phase tick : ℕ) (marks : List SentMark) → IfSome o (λ k. SomeOf (IsMarkBelow (k.tick + 1) from phase) marks) → marked o ≡ Some (Incoming.Mark tick) → SomeOf (IsMarkBelow (tick + 1) from phase) marks
taken-mark None from phase tick marks is e = absurd (cc)
taken-mark (Some m) from phase tick marks is e = subst (λ t. SomeOf (IsMarkBelow (t + 1) from phase) marks) (ap (λ i. tick_of i) (same_Some (Incoming.Mark m.tick) (Incoming.Mark tick) e)) is

module _ (s : Setup) (setup : IsSetup s) (old : World) (c : Choice) (new : World) (next : IsKeptNext s old c new) (heard : AreHeard s old) (in_phase : AreInPhase s old) where
  open event s old c new next use {g, step, after}

  abbrev n : NodeState
  n = acting s setup old c new next heard

  abbrev x : Place
  x = place_at c step

  is-enabled : enabled g (old.nodes c.node) c.what next.is.incoming ≡ true
  is-enabled = (step_of-is g (old.nodes c.node) c.what next.is.incoming c.dropped step next.is.steps).enabled

  may : may_happen g n c.what next.is.incoming ≡ true
  may = right-true (not (is_ended g n)) (may_happen g n c.what next.is.incoming) is-enabled

  was : IsNodeInPhase s old.marks c.node (old.nodes c.node)
  was = in_phase.nodes c.node next.is.node

  same-tick : step.node.tick ≡ n.tick
  same-tick = step_of-tick g (old.nodes c.node) c.what next.is.incoming c.dropped step next.is.steps

  up : (old.nodes c.node).tick < n.tick
  up = omega arith

  came-below : tick_of next.is.incoming < n.tick
  came-below = omega arith

  node-phase : NodePhase g n c.what next.is.incoming step
  node-phase = did-node g n c.what next.is.incoming step may (event-did s old c new next)

  proc-phase : (q : ℕ) → IsProc q → ProcPhase g n q (proc_of step.node q)
  proc-phase = did-procs g n (next.calls.four c.node) (setup-procs s setup c.node) (not-true (is_ended g n) (left-true (not (is_ended g n)) (may_happen g n c.what next.is.incoming) is-enabled)) c.what next.is.incoming step
      (incoming-is IsFrameProc tt (λ i tick. tt) (λ tick. tt) (λ m. IsProc m.proc) (λ m proc. proc) old c.node
      (λ from. EachOf-more (IsOnLink old.calls from c.node) (λ (m : Message). IsProc m.proc) (old.frames from c.node) (λ m is. is.proc) (next.calls.frames from c.node)) c.what next.is.incoming next.is.comes)
      may (event-did s old c new next)

  phase-up : (q : ℕ) → IsProc q → (proc_of n q).phase ≤ (proc_of step.node q).phase
  phase-up q proc = elim (proc-phase q proc) [
    | stays e ↦ (let f = ap (λ (r : ProcState). r.phase) e in omega (arith, f))
    | works o is e ↦ omega (arith, e)
    | begins has low high e ↦ e
  ]

  -- a process that does something is of a program, in one of the phases, behind all marks of those before
  abbrev IsActing : ℕ → Type 0
  IsActing q = (has_program g q ≡ true) × ((proc_of n q).phase ≤ s.phases) × AreMarkedBelow s.opening old.marks n.tick (proc_of n q).phase

  open-acts : (q : ℕ) (proc : IsProc q) (o : OpenOp) → (proc_of n q).doing ≡ Some o → IsActing q
  open-acts q proc o is =
      let open_in = subst (IsOpenInPhase s old.marks c.node q (proc_of n q).phase) is (was.procs q proc).doing in
      let since = subst (IsDoingSince (proc_at c.node q) _ old.trace (old.nodes c.node).tick (proc_of n q).last) is (heard.procs c.node q proc).doing in
      (open_in.0, open_in.1, marked-later s.opening old.marks old.marks (λ tick node phase some. some) o.began.begun.tick n.tick (proc_of n q).phase (let e = since.begun in let u = up in omega (arith, e, u)) open_in.2)

  acts-at : (q : ℕ) (proc : IsProc q) → (proc_of step.node q ≡ proc_of n q → ⊥) → IsActing q
  acts-at q proc differs = elim (proc-phase q proc) [
    | stays e ↦ absurd (differs e)
    | works o is e ↦ open-acts q proc o is
    | begins has low high e ↦ (has, omega (arith, low, high), (λ a k node least below. mark-later ((old.nodes c.node).tick + 1) n.tick a k (let u = up in omega (arith, u)) old.marks (was.behind a k node least (omega (arith, below, low)))))
  ]

  -- its node did not send the mark of its phase
  not-sent : (q tick : ℕ) → has_program g q ≡ true → AreMarksAbove old.marks tick c.node (proc_of n q).phase
  not-sent q tick has = EachOf-more (λ (m : SentMark). m.node ≡ c.node → (p : ℕ) → has_program g p ≡ true → m.phase < (proc_of n p).phase) (λ (m : SentMark). m.node ≡ c.node → m.phase ≡ (proc_of n q).phase → tick < m.tick) old.marks
      (λ m is node phase. absurd (let e = is node q has in omega (arith, e, phase))) was.sent

  proc-same : (q : ℕ) → IsProc q → proc_of step.node q ≡ proc_of n q → IsProcInPhase s old.marks c.node q (proc_of step.node q)
  proc-same q proc e = subst (IsProcInPhase s old.marks c.node q) (sym e) (was.procs q proc)

  proc-quiet : (q : ℕ) → IsProc q → (proc_of step.node q).doing ≡ None → IsProcInPhase s old.marks c.node q (proc_of step.node q)
  proc-quiet q proc none = record {
    least = let e = (was.procs q proc).least in let f = phase-up q proc in omega (arith, e, f);
    doing = subst (IsOpenInPhase s old.marks c.node q (proc_of step.node q).phase) (sym none) tt;
  }

  -- it goes on with its operation
  proc-works : (q : ℕ) (proc : IsProc q) (o : BegunOp) (a b : Await) → (proc_of n q).doing ≡ Some (record { began = o; awaits = a }) → (proc_of step.node q).doing ≡ Some (record { began = o; awaits = b }) → (proc_of step.node q).phase ≡ (proc_of n q).phase
      → IsProcInPhase s old.marks c.node q (proc_of step.node q)
  proc-works q proc o a b is now e = record {
    least = let l = (was.procs q proc).least in omega (arith, e, l);
    doing = subst (IsOpenInPhase s old.marks c.node q (proc_of step.node q).phase) (sym now) (subst (λ k. IsOpenInPhase s old.marks c.node q k (Some (record { began = o; awaits = b }))) (sym e)
        (subst (IsOpenInPhase s old.marks c.node q (proc_of n q).phase) is (was.procs q proc).doing));
  }

  record Came (q : ℕ) : Type 0 where
    proc : IsProcInPhase s old.marks c.node q (proc_of step.node q)
    note : IsEndInPhase s.opening old.marks x step.note

  note-did : (q : ℕ) (proc : IsProc q) (op : Op) (reply : Reply) → (proc_of step.node q ≡ proc_of n q → ⊥) → step.note ≡ Note.Did (name_of g q) (proc_of n q).phase op reply → IsEndInPhase s.opening old.marks x step.note
  note-did q proc op reply differs e =
      let acts = acts-at q proc differs in
      subst (IsEndInPhase s.opening old.marks x) (sym e) (record {
        own = refl;
        node = next.is.node;
        least = (was.procs q proc).least;
        behind = subst (λ t. AreMarkedBelow s.opening old.marks t (proc_of n q).phase) (sym same-tick) acts.2;
        before = not-sent q x.tick acts.0;
      })

  note-told : (q : ℕ) (proc : IsProc q) (o : BegunOp) (k : Asked) (reply : Reply) → (proc_of n q).doing ≡ asking o k → (t : Told) → t.proc ≡ name_of g q → t.phase ≡ (proc_of n q).phase → t.begun ≡ o.begun → step.note ≡ Note.Ended t → IsEndInPhase s.opening old.marks x step.note
  note-told q proc o k reply is t name phase begun e =
      let open_in = subst (IsOpenInPhase s old.marks c.node q (proc_of n q).phase) is (was.procs q proc).doing in
      subst (IsEndInPhase s.opening old.marks x) (sym e) (subst (λ r. IsInPhase s.opening old.marks r t.phase t.begun.tick x) (sym name) (subst (λ i. IsInPhase s.opening old.marks (name_of g q) i t.begun.tick x) (sym phase)
      (subst (λ (y : Place). IsInPhase s.opening old.marks (name_of g q) (proc_of n q).phase y.tick x) (sym begun) (record {
        own = refl;
        node = next.is.node;
        least = (was.procs q proc).least;
        behind = open_in.2;
        before = not-sent q x.tick open_in.0;
      }))))

  apart-note : (note : Note) → IsApart note → IsEndInPhase s.opening old.marks x note
  apart-note Note.Nothing is = tt
  apart-note (Note.Began p op) is = absurd is
  apart-note (Note.Did p phase op reply) is = absurd is
  apart-note (Note.Ended t) is = absurd is
  apart-note (Note.Decided p number ask answer) is = tt

  heard-more : (q : ℕ) (reply : Reply) → (proc_of step.node q).heard ≡ Some reply ∷ (proc_of n q).heard → proc_of step.node q ≡ proc_of n q → ⊥
  heard-more q reply more e = longer (Some reply) (proc_of n q).heard (sym more ∙ ap (λ (r : ProcState). r.heard) e)

  came : (p : ℕ) → IsProc p → Progress (g.asks p) (name_of g p) n.tick next.is.incoming (proc_of n p) (proc_of step.node p) step.note → Came p
  came p proc (opens op a asks none doing awaits untold e) =
      let acts = acts-at p proc (λ f. let h = sym doing ∙ ap (λ (r : ProcState). r.doing) f ∙ none in cc) in
      record {
        proc = record {
          least = let l = (was.procs p proc).least in let f = untold.phase in omega (arith, f, l);
          doing = subst (IsOpenInPhase s old.marks c.node p (proc_of step.node p).phase) (sym doing) (subst (λ k. IsOpenInPhase s old.marks c.node p k (Some (record { began = record { op = op; begun = record { tick = n.tick; node = c.node } }; awaits = a }))) (sym untold.phase) acts);
        };
        note = subst (IsEndInPhase s.opening old.marks x) (sym e) tt;
      }
  came p proc (goes_on o a b part is doing awaits untold e) = record { proc = proc-works p proc o a b is doing untold.phase; note = subst (IsEndInPhase s.opening old.marks x) (sym e) tt }
  came p proc (again o k is doing last untold e) = record { proc = proc-works p proc o _ _ is doing untold.phase; note = subst (IsEndInPhase s.opening old.marks x) (sym e) tt }
  came p proc (did op reply part asks end e) = record { proc = proc-quiet p proc end.doing; note = note-did p proc op reply (heard-more p reply end.heard) e }
  came p proc (told o k reply asks is end e tells) = record { proc = proc-quiet p proc end.doing; note = note-told p proc o k reply is _ refl refl refl e }
  came p proc (pauses none asks done last h phase e) = record { proc = proc-quiet p proc done; note = subst (IsEndInPhase s.opening old.marks x) (sym e) tt }
  came p proc (is_done none asks done last h e) = record { proc = proc-quiet p proc done; note = subst (IsEndInPhase s.opening old.marks x) (sym e) tt }

  all-came : ProcStep g n next.is.incoming step → ((q : ℕ) → IsProc q → IsProcInPhase s old.marks c.node q (proc_of step.node q)) × IsEndInPhase s.opening old.marks x step.note
  all-came (rests all apart) = ((λ q proc. proc-same q proc (all q)), apart-note step.note apart)
  all-came (comes p own others progress) =
      let is = came p own progress in (
        (λ q proc. elim (cases_eq q p) [
          | inl there ↦ subst (λ r. IsProcInPhase s old.marks c.node r (proc_of step.node r)) (sym there) is.proc
          | inr beside ↦ proc-same q proc (others q proc beside)
        ]),
        is.note,
      )

  -- the node, the others, and what was noted before, over the marks that there are now
  module _ (marks : List SentMark) (now : after.marks ≡ marks) (grows : Grows old.marks marks) where
    others-node : (a : ℕ) → IsNodeInPhase s old.marks a (old.nodes a) → EachOf (λ (m : SentMark). m.node ≡ a → (p : ℕ) → has_program (given s a) p ≡ true → m.phase < (proc_of (old.nodes a) p).phase) marks → IsNodeInPhase s marks a (old.nodes a)
    others-node a is sent = record {
      behind = marked-later s.opening old.marks marks grows ((old.nodes a).tick + 1) ((old.nodes a).tick + 1) (old.nodes a).phase (omega arith) is.behind;
      taken = EachOf-more (λ (m : ℕ × ℕ). SomeOf (IsMarkBelow ((old.nodes a).tick + 1) m.0 m.1) old.marks) (λ (m : ℕ × ℕ). SomeOf (IsMarkBelow ((old.nodes a).tick + 1) m.0 m.1) marks) (old.nodes a).marks (λ m some. grows _ _ _ some) is.taken;
      ready = λ h. grows _ _ _ (is.ready h);
      sent = sent;
      procs = λ p proc. let q = is.procs p proc in record { least = q.least; doing = open-later s old.marks marks grows a p (proc_of (old.nodes a) p).phase (proc_of (old.nodes a) p).doing q.doing };
    }

    together : IsNodeInPhase s marks c.node step.node → ((a : ℕ) → a ≢ c.node → is_node s.opening a ≡ true → EachOf (λ (m : SentMark). m.node ≡ a → (p : ℕ) → has_program (given s a) p ≡ true → m.phase < (proc_of (old.nodes a) p).phase) marks)
        → IsEndInPhase s.opening marks x step.note → EachOf (λ (j : Noted). IsEndInPhase s.opening marks j.place j.note) old.trace → AreInPhase s after
    together here sent note notes = record {
      nodes = λ a node. subst (λ ms. IsNodeInPhase s ms a (after.nodes a)) (sym now) (elim (cases_eq a c.node) [
        | inl is ↦ subst (λ b. IsNodeInPhase s marks b (after.nodes b)) (sym is) (subst (IsNodeInPhase s marks c.node) (sym (put-same old.nodes c.node c.node step.node refl)) here)
        | inr is ↦ subst (IsNodeInPhase s marks a) (sym (put-other old.nodes c.node a step.node is)) (others-node a (in_phase.nodes a node) (sent a is node))
      ]);
      notes = subst (λ ms. EachOf (λ (j : Noted). IsEndInPhase s.opening ms j.place j.note) after.trace) (sym now) (note, notes);
    }

  -- what the node knew, at its new tick
  behind-now : AreMarkedBelow s.opening old.marks (n.tick + 1) n.phase
  behind-now = marked-later s.opening old.marks old.marks (λ tick node phase some. some) ((old.nodes c.node).tick + 1) (n.tick + 1) n.phase (let u = up in omega (arith, u)) was.behind

  taken-now : EachOf (λ (m : ℕ × ℕ). SomeOf (IsMarkBelow (n.tick + 1) m.0 m.1) old.marks) n.marks
  taken-now = EachOf-more (λ (m : ℕ × ℕ). SomeOf (IsMarkBelow ((old.nodes c.node).tick + 1) m.0 m.1) old.marks) (λ (m : ℕ × ℕ). SomeOf (IsMarkBelow (n.tick + 1) m.0 m.1) old.marks) n.marks
      (λ m some. mark-later ((old.nodes c.node).tick + 1) (n.tick + 1) m.0 m.1 (let u = up in omega (arith, u)) old.marks some) was.taken

  ready-now : n.ready ≡ true → SomeOf (IsMarkBelow (n.tick + 1) c.node n.phase) old.marks
  ready-now h = mark-later ((old.nodes c.node).tick + 1) (n.tick + 1) c.node n.phase (let u = up in omega (arith, u)) old.marks (was.ready h)

  sent-now : EachOf (λ (m : SentMark). m.node ≡ c.node → (p : ℕ) → has_program g p ≡ true → m.phase < (proc_of step.node p).phase) old.marks
  sent-now = EachOf-more (λ (m : SentMark). m.node ≡ c.node → (p : ℕ) → has_program g p ≡ true → m.phase < (proc_of n p).phase) (λ (m : SentMark). m.node ≡ c.node → (p : ℕ) → has_program g p ≡ true → m.phase < (proc_of step.node p).phase) old.marks
      (λ m is node p has. let e = is node p has in let f = phase-up p (setup-procs s setup c.node p has) in omega (arith, e, f)) was.sent

  sent-others : (a : ℕ) → a ≢ c.node → is_node s.opening a ≡ true → EachOf (λ (m : SentMark). m.node ≡ a → (p : ℕ) → has_program (given s a) p ≡ true → m.phase < (proc_of (old.nodes a) p).phase) old.marks
  sent-others a differs node = (in_phase.nodes a node).sent

  -- no mark was sent or taken
  when-same : step.node.phase ≡ n.phase → step.node.ready ≡ n.ready → step.node.marks ≡ n.marks → after.marks ≡ old.marks → AreInPhase s after
  when-same phase ready marks now =
      let result = all-came (proc-step s setup old c new next heard) in
      together old.marks now (λ tick node phase some. some)
      (record {
        behind = subst (λ t. AreMarkedBelow s.opening old.marks (t + 1) step.node.phase) (sym same-tick) (subst (AreMarkedBelow s.opening old.marks (n.tick + 1)) (sym phase) behind-now);
        taken = subst (λ t. EachOf (λ (m : ℕ × ℕ). SomeOf (IsMarkBelow (t + 1) m.0 m.1) old.marks) step.node.marks) (sym same-tick) (subst (EachOf (λ (m : ℕ × ℕ). SomeOf (IsMarkBelow (n.tick + 1) m.0 m.1) old.marks)) (sym marks) taken-now);
        ready = λ h. subst (λ t. SomeOf (IsMarkBelow (t + 1) c.node step.node.phase) old.marks) (sym same-tick) (subst (λ k. SomeOf (IsMarkBelow (n.tick + 1) c.node k) old.marks) (sym phase) (ready-now (sym ready ∙ h)));
        sent = sent-now;
        procs = result.0;
      }) sent-others result.1 in_phase.notes

  few-nodes : s.opening.nodes ≤ 8
  few-nodes = setup.start.nodes_high

  -- a node that may come to its next phase
  module _ (marks : List SentMark) (grows : Grows old.marks marks) (y : NodeState) (is : step.node ≡ after_marks g y) (same_procs : y.procs ≡ n.procs) (same_tick : y.tick ≡ n.tick)
      (behind : AreMarkedBelow s.opening marks (y.tick + 1) y.phase) (taken : EachOf (λ (m : ℕ × ℕ). SomeOf (IsMarkBelow (y.tick + 1) m.0 m.1) marks) y.marks)
      (ready : y.ready ≡ true → SomeOf (IsMarkBelow (y.tick + 1) c.node y.phase) marks)
      (sent : EachOf (λ (m : SentMark). m.node ≡ c.node → (p : ℕ) → has_program g p ≡ true → m.phase < (proc_of step.node p).phase) marks) where
    next-procs : (b : Bool) → (in_next_phase b y).procs ≡ n.procs
    next-procs true = same_procs
    next-procs false = same_procs

    proc-is : (q : ℕ) → proc_of step.node q ≡ proc_of n q
    proc-is q = ap (λ (z : NodeState). proc_of z q) is ∙ ap (λ ps. at ps q first_proc) (next-procs (y.ready && others_marked g y))

    next-node : IsNodeInPhase s marks c.node step.node
    next-node = record {
      behind = subst (λ (z : NodeState). AreMarkedBelow s.opening marks (z.tick + 1) z.phase) (sym is) (next-behind s few-nodes marks c.node y taken behind ready (y.ready && others_marked g y) refl);
      taken = subst (λ (z : NodeState). EachOf (λ (m : ℕ × ℕ). SomeOf (IsMarkBelow (z.tick + 1) m.0 m.1) marks) z.marks) (sym is) (next-taken s few-nodes marks c.node y taken behind ready (y.ready && others_marked g y));
      ready = λ h. subst (λ (z : NodeState). SomeOf (IsMarkBelow (z.tick + 1) c.node z.phase) marks) (sym is)
          (next-ready s few-nodes marks c.node y taken behind ready (y.ready && others_marked g y) (ap (λ (z : NodeState). z.ready) (sym is) ∙ h));
      sent = sent;
      procs = λ q proc. let r = proc-same q proc (proc-is q) in record { least = r.least; doing = open-later s old.marks marks grows c.node q (proc_of step.node q).phase (proc_of step.node q).doing r.doing };
    }

  when-took : (from phase tick : ℕ) → c.what ≡ Mark from phase → next.is.incoming ≡ Incoming.Mark tick → step.node ≡ after_marks g (record n { marks = (from, phase) ∷ n.marks }) → step.note ≡ Note.Nothing → AreInPhase s after
  when-took from phase tick what received is note =
      let y = record n { marks = (from, phase) ∷ n.marks } in
      let found : SomeOf (IsMarkBelow (tick + 1) from phase) old.marks =
      taken-mark (mark_of old from phase) from phase tick old.marks (found-mark from phase old.marks) (subst (λ i. marked (mark_of old from phase) ≡ Some i) received (subst (λ w. incoming_of old c.node w ≡ Some next.is.incoming) what next.is.comes)) in
      let below : tick + 1 ≤ n.tick + 1 = (let e = came-below in let f = ap (λ i. tick_of i) received in omega (arith, e, f)) in
      together old.marks (ap (marks_after old c.node step.node.tick) what) (λ tick node phase some. some)
      (next-node old.marks (λ tick node phase some. some) y is refl refl behind-now (mark-later (tick + 1) (n.tick + 1) from phase below old.marks found, taken-now) ready-now sent-now)
      sent-others (subst (IsEndInPhase s.opening old.marks x) (sym note) tt) in_phase.notes

  abbrev mark : ℕ → SentMark
  mark phase = record { node = c.node; phase = phase; tick = step.node.tick }

  -- the new mark is above all that ended in its phase at its node
  note-above : (phase : ℕ) (j : Noted) → j.place.tick ≤ (old.nodes j.place.node).tick → (note : Note) → IsEndInPhase s.opening old.marks j.place note → IsEndInPhase s.opening (mark phase ∷ old.marks) j.place note
  note-above phase j most Note.Nothing is = tt
  note-above phase j most (Note.Began p op) is = tt
  note-above phase j most (Note.Decided p number ask answer) is = tt
  note-above phase j most (Note.Did p k op reply) is = record { own = is.own; node = is.node; least = is.least; behind = marked-later s.opening old.marks (mark phase ∷ old.marks) (λ tick node i some. inr some) j.place.tick j.place.tick k (omega arith) is.behind; before = ((λ node same_phase. above is.own node), is.before) }
    where
      above : j.place.node ≡ p.node → c.node ≡ p.node → j.place.tick < step.node.tick
      above a b = let e = ap (λ i. (old.nodes i).tick) (a ∙ sym b) in let t = same-tick in let u = up in omega (arith, e, most, t, u)
  note-above phase j most (Note.Ended t) is = record { own = is.own; node = is.node; least = is.least; behind = marked-later s.opening old.marks (mark phase ∷ old.marks) (λ tick node i some. inr some) t.begun.tick t.begun.tick t.phase (omega arith) is.behind; before = ((λ node same_phase. above is.own node), is.before) }
    where
      above : j.place.node ≡ t.proc.node → c.node ≡ t.proc.node → j.place.tick < step.node.tick
      above a b = let e = ap (λ i. (old.nodes i).tick) (a ∙ sym b) in let k = same-tick in let u = up in omega (arith, e, most, k, u)

  notes-above : (phase : ℕ) (notes : List Noted) → EachOf (λ (j : Noted). j.place.tick ≤ (old.nodes j.place.node).tick) notes → EachOf (λ (j : Noted). IsEndInPhase s.opening old.marks j.place j.note) notes
      → EachOf (λ (j : Noted). IsEndInPhase s.opening (mark phase ∷ old.marks) j.place j.note) notes
  notes-above phase [] most each = tt
  notes-above phase (j ∷ older) most each = (note-above phase j most.0 j.note each.0, notes-above phase older most.1 each.1)

  when-ready : (phase : ℕ) → c.what ≡ Ready phase → phase ≡ n.phase → ((p : ℕ) → has_program g p ≡ true → n.phase < (proc_of n p).phase) → step.node ≡ after_marks g (record n { ready = true }) → step.note ≡ Note.Nothing → AreInPhase s after
  when-ready phase what now_phase past is note =
      let y = record n { ready = true } in
      let grows : Grows old.marks (mark phase ∷ old.marks) = λ tick node k some. inr some in
      together (mark phase ∷ old.marks) (ap (marks_after old c.node step.node.tick) what) grows
      (next-node (mark phase ∷ old.marks) grows y is refl refl
      (marked-later s.opening old.marks (mark phase ∷ old.marks) grows (n.tick + 1) (n.tick + 1) n.phase (omega arith) behind-now)
      (EachOf-more (λ (m : ℕ × ℕ). SomeOf (IsMarkBelow (n.tick + 1) m.0 m.1) old.marks) (λ (m : ℕ × ℕ). SomeOf (IsMarkBelow (n.tick + 1) m.0 m.1) (mark phase ∷ old.marks)) n.marks (λ m some. inr some) taken-now)
      (λ h. inl (refl, now_phase, (let t = same-tick in omega (arith, t))))
      ((λ node p has. let e = past p has in let f = phase-up p (setup-procs s setup c.node p has) in omega (arith, e, f, now_phase)), sent-now))
      (λ a differs node. ((λ here. absurd (differs (sym here))), sent-others a differs node))
      (subst (IsEndInPhase s.opening (mark phase ∷ old.marks) x) (sym note) tt)
      (notes-above phase old.trace heard.places in_phase.notes)

  pub step-in_phase : AreInPhase s new
  step-in_phase = subst (AreInPhase s) (sym next.is.world) (elim node-phase [
    | same phase ready marks now ↦ when-same phase ready marks (now old c.node step.node.tick)
    | readied phase what now past is note ↦ when-ready phase what now past is note
    | took from phase tick what received is note ↦ when-took from phase tick what received is note
  ])

module _ (s : Setup) (setup : IsSetup s) where
  in_phase-first : AreInPhase s (first_world s)
  in_phase-first = record {
    nodes = λ n node. record {
      behind = λ a k is low below. absurd (omega (arith, low, below));
      taken = tt;
      ready = λ h. absurd (cc);
      sent = tt;
      procs = by_proc (λ p. IsProcInPhase s [] n p (proc_of (first_node (given s n)) p)) (start n 1) (start n 2) (start n 3) (start n 4);
    };
    notes = tt;
  }
    where
      start : (n p : ℕ) → IsProcInPhase s [] n p first_proc
      start n p = record { least = omega arith; doing = tt }

  -- in every run
  pub in_phases-are : (cs : List Choice) (w : World) → world_after s cs ≡ Some w → IsTimely w → AreInPhase s w
  in_phases-are = every-kept-run s setup (setup-procs s setup) (AreInPhase s) in_phase-first
      (λ cs old c new e timely next in_phase. step-in_phase s setup old c new next (heard-are s setup (setup-procs s setup) cs old e timely) in_phase)
