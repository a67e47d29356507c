-- While an operation of a process is open nothing is done by the process, and nothing is told to it.
use Rattle.std.proofs.Common.{◌≡◌, ◌≢◌, ℕ, true, false, List, [], ◌∷◌, Option, Some, None, inl, inr, refl, sym, ap, subst, ◌∙◌, arith}
use Rattle.std.specs.Prelude.{if◌then◌else◌}
use Rattle.std.proofs.lemmas.Bool.{cases_eq}
use Rattle.std.proofs.lemmas.Bool.Decides.{nat_tests}
use Rattle.uid_names.specs.Names.{ProcName, same_proc}
use Rattle.uid_names.specs.declared.ids.Place.{Place}
use Rattle.dom_history.specs.declared.deed.Deed.{Deed}
use Rattle.dom_history.specs.declared.op.Op.{Op}
use Rattle.dom_history.specs.Objects.{is_node}
use Rattle.dom_history.specs.StoreEffects.{own}
use Rattle.fault_handler.specs.Invariant.{IsProc}
use Rattle.fault_handler.proofs.Fours.{by_proc}
use Rattle.node_runs.specs.Setups.{Setup, IsSetup, given}
use Rattle.node_runs.specs.NodeStates.{OpenOp, ProcState, NodeState, proc_of, name_of, first_node}
use Rattle.node_runs.specs.Doings.{ticked}
use Rattle.node_runs.specs.Notes.{Note}
use Rattle.node_runs.specs.NodesKeep.{IsTimely}
use Rattle.node_runs.specs.Runs.{World, Noted, Choice, world_with, world_after}
use Rattle.node_runs.specs.CallsKeep.{EachOf}
use Rattle.node_runs.proofs.Worlds.{place_at}
use Rattle.node_runs.proofs.Calls.{put-same, put-other}
use Rattle.node_runs.proofs.Ticks.{step_of-tick}
use Rattle.node_runs.proofs.SettingUp.{setup-procs}
use Rattle.run_laws.specs.Progress.{Progress, opens, goes_on, again, did, told, pauses, is_done, IsApart, rests, comes}
use Rattle.run_laws.specs.DecidedReplies.{proc_at}
use Rattle.run_laws.specs.Heard.{AreHeard}
use Rattle.run_laws.proofs.HearingRuns.{IsKeptNext, proc-step, heard-are, every-kept-run, event}
use Rattle.run_laws.specs.NotedDeeds.{note_deeds}

-- the operation began there, and since then nothing was done by its process or told to it
pub data Alone (p : ProcName) (op : Op) (begun : Place) : List Noted → Type 0 where
  here : {m : Noted} {older : List Noted} → m.place ≡ begun → m.note ≡ Note.Began p op → Alone p op begun (m ∷ older)
  later : {m : Noted} {older : List Noted} → own p (note_deeds m.note) ≡ [] → Alone p op begun older → Alone p op begun (m ∷ older)

abbrev pub IsAloneDoing : ProcName → List Noted → Option OpenOp → Type 0
IsAloneDoing p notes None = Unit {0}
IsAloneDoing p notes (Some o) = Alone p o.began.op o.began.begun notes

-- so it was where an operation ended
abbrev pub IsAloneEnd : Note → List Noted → Type 0
IsAloneEnd (Note.Ended t) older = Alone t.proc t.op t.begun older
IsAloneEnd note older = Unit {0}

abbrev pub AreAloneEnds : List Noted → Type 0
AreAloneEnds [] = Unit {0}
AreAloneEnds (m ∷ older) = IsAloneEnd m.note older × AreAloneEnds older

pub record AreAlone (s : Setup) (w : World) : Type 0 where
  pub opened : (n p : ℕ) → IsProc p → IsAloneDoing (proc_at n p) w.trace (proc_of (w.nodes n) p).doing
  pub ended : AreAloneEnds w.trace
  -- each note is of a node
  pub nodes : EachOf (λ (j : Noted). is_node s.opening j.place.node ≡ true) w.trace

module _ (s : Setup) (setup : IsSetup s) (old : World) (c : Choice) (new : World) (next : IsKeptNext s old c new) (heard : AreHeard s old) (alone : AreAlone s old) where
  open event s old c new next use {step}

  abbrev m : NodeState
  m = ticked (old.nodes c.node) next.is.incoming

  abbrev x : Place
  x = place_at c step

  abbrev after : World
  after = world_with old x c.what step

  same-tick : step.node.tick ≡ m.tick
  same-tick = step_of-tick (given s c.node) (old.nodes c.node) c.what next.is.incoming c.dropped step next.is.steps

  apart-quiet : (q : ProcName) (note : Note) → IsApart note → own q (note_deeds note) ≡ []
  apart-quiet q Note.Nothing is = refl
  apart-quiet q (Note.Began r op) is = absurd is
  apart-quiet q (Note.Did r phase op reply) is = absurd is
  apart-quiet q (Note.Ended t) is = absurd is
  apart-quiet q (Note.Decided r k ask answer) is = refl

  apart-end : (note : Note) → IsApart note → IsAloneEnd note old.trace
  apart-end Note.Nothing is = tt
  apart-end (Note.Began r op) is = absurd is
  apart-end (Note.Did r phase op reply) is = absurd is
  apart-end (Note.Ended t) is = absurd is
  apart-end (Note.Decided r k ask answer) is = tt

  carried : (q : ProcName) → own q (note_deeds step.note) ≡ [] → (o : Option OpenOp) → IsAloneDoing q old.trace o → IsAloneDoing q after.trace o
  carried q quiet None is = tt
  carried q quiet (Some o) is = later quiet is

  at-node : (a q : ℕ) → (a ≡ c.node → IsAloneDoing (proc_at c.node q) after.trace (proc_of step.node q).doing) → (a ≢ c.node → IsAloneDoing (proc_at a q) after.trace (proc_of (old.nodes a) q).doing)
      → IsAloneDoing (proc_at a q) after.trace (proc_of (after.nodes a) q).doing
  at-node a q here_so away_so = elim (cases_eq a c.node) [
    | inl is ↦ subst (λ (y : NodeState). IsAloneDoing (proc_at a q) after.trace (proc_of y q).doing) (sym (put-same old.nodes c.node a step.node is)) (subst (λ b. IsAloneDoing (proc_at b q) after.trace (proc_of step.node q).doing) (sym is) (here_so is))
    | inr is ↦ subst (λ (y : NodeState). IsAloneDoing (proc_at a q) after.trace (proc_of y q).doing) (sym (put-other old.nodes c.node a step.node is)) (away_so is)
  ]

  when-rests : ((q : ℕ) → proc_of step.node q ≡ proc_of m q) → IsApart step.note → AreAlone s after
  when-rests all apart = record {
    opened = λ a q proc. at-node a q
        (λ is. subst (λ (y : ProcState). IsAloneDoing (proc_at c.node q) after.trace y.doing) (sym (all q)) (carried (proc_at c.node q) (apart-quiet (proc_at c.node q) step.note apart) (proc_of m q).doing (alone.opened c.node q proc)))
        (λ is. carried (proc_at a q) (apart-quiet (proc_at a q) step.note apart) (proc_of (old.nodes a) q).doing (alone.opened a q proc));
    ended = (apart-end step.note apart, alone.ended);
    nodes = (next.is.node, alone.nodes);
  }

  module _ (p : ℕ) (proc : IsProc p) (others : (q : ℕ) → IsProc q → q ≢ p → proc_of step.node q ≡ proc_of m q)
      (progress : Progress ((given s c.node).asks p) (name_of (given s c.node) p) m.tick next.is.incoming (proc_of m p) (proc_of step.node p) step.note) where
    abbrev me : ProcName
    me = proc_at c.node p

    -- the note is of no other process
    other-quiet : (q : ProcName) → same_proc me q ≡ false → own q (note_deeds step.note) ≡ []
    other-quiet q differs = by progress
      where
        none : step.note ≡ Note.Nothing → own q (note_deeds step.note) ≡ []
        none e = ap (λ k. own q (note_deeds k)) e

        by : Progress ((given s c.node).asks p) (name_of (given s c.node) p) m.tick next.is.incoming (proc_of m p) (proc_of step.node p) step.note → own q (note_deeds step.note) ≡ []
        by (opens op a asks was doing awaits same e) = ap (λ k. own q (note_deeds k)) e
        by (goes_on o a b part was doing awaits same e) = none e
        by (again o k was doing last same e) = none e
        by (did op reply part asks end e) = let d : Deed = record { proc = me; op = op; reply = reply } in ap (λ k. own q (note_deeds k)) e ∙ ap (λ b. if b then d ∷ [] else []) differs
        by (told o k reply asks was end e tells) = let d : Deed = record { proc = me; op = o.op; reply = reply } in ap (λ k. own q (note_deeds k)) e ∙ ap (λ b. if b then d ∷ [] else []) differs
        by (pauses was asks none_now last h phase e) = none e
        by (is_done was asks none_now last h e) = none e

    abbrev Mine : Type 0
    Mine = IsAloneDoing me after.trace (proc_of step.node p).doing

    mine : Mine
    mine = by progress
      where
        none : (proc_of step.node p).doing ≡ None → Mine
        none e = subst (IsAloneDoing me after.trace) (sym e) tt

        goes : (o : OpenOp) (r : OpenOp) → r.began ≡ o.began → (proc_of m p).doing ≡ Some o → (proc_of step.node p).doing ≡ Some r → step.note ≡ Note.Nothing → Mine
        goes o r same was doing e =
            subst (IsAloneDoing me after.trace) (sym doing)
            (later (ap (λ k. own me (note_deeds k)) e) (subst (λ b. Alone me b.op b.begun old.trace) (sym same) (subst (IsAloneDoing me old.trace) was (alone.opened c.node p proc))))

        by : Progress ((given s c.node).asks p) (name_of (given s c.node) p) m.tick next.is.incoming (proc_of m p) (proc_of step.node p) step.note → Mine
        by (opens op a asks was doing awaits same e) =
            subst (IsAloneDoing me after.trace) (sym doing) (here (ap (λ t. let y : Place = record { tick = t; node = c.node } in y) same-tick) e)
        by (goes_on o a b part was doing awaits same e) = goes (record { began = o; awaits = a }) (record { began = o; awaits = b }) refl was doing e
        by (again o k was doing last same e) = goes _ _ refl was doing e
        by (did op reply part asks end e) = none end.doing
        by (told o k reply asks was end e tells) = none end.doing
        by (pauses was asks none_now last h phase e) = none none_now
        by (is_done was asks none_now last h e) = none none_now

    end-alone : IsAloneEnd step.note old.trace
    end-alone = by progress
      where
        by : Progress ((given s c.node).asks p) (name_of (given s c.node) p) m.tick next.is.incoming (proc_of m p) (proc_of step.node p) step.note → IsAloneEnd step.note old.trace
        by (opens op a asks was doing awaits same e) = subst (λ k. IsAloneEnd k old.trace) (sym e) tt
        by (goes_on o a b part was doing awaits same e) = subst (λ k. IsAloneEnd k old.trace) (sym e) tt
        by (again o k was doing last same e) = subst (λ k. IsAloneEnd k old.trace) (sym e) tt
        by (did op reply part asks end e) = subst (λ k. IsAloneEnd k old.trace) (sym e) tt
        by (told o k reply asks was end e tells) = subst (λ k. IsAloneEnd k old.trace) (sym e) (subst (IsAloneDoing me old.trace) was (alone.opened c.node p proc))
        by (pauses was asks none_now last h phase e) = subst (λ k. IsAloneEnd k old.trace) (sym e) tt
        by (is_done was asks none_now last h e) = subst (λ k. IsAloneEnd k old.trace) (sym e) tt

    apart-proc : (a q : ℕ) → (a ≡ c.node → q ≡ p → ⊥) → same_proc me (proc_at a q) ≡ false
    apart-proc a q differs = elim (cases_eq a c.node) [
      | inr away ↦ grind (arith, nat_tests, away)
      | inl same ↦ elim (cases_eq q p) [ inl there ↦ absurd (differs same there) | inr beside ↦ grind (arith, nat_tests, beside) ]
    ]

    when-comes : AreAlone s after
    when-comes = record {
      opened = λ a q other. at-node a q
          (λ is. elim (cases_eq q p) [
            | inl there ↦ subst (λ r. IsAloneDoing (proc_at c.node r) after.trace (proc_of step.node r).doing) (sym there) mine
            | inr beside ↦ subst (λ (y : ProcState). IsAloneDoing (proc_at c.node q) after.trace y.doing) (sym (others q other beside))
                (carried (proc_at c.node q) (other-quiet (proc_at c.node q) (apart-proc c.node q (λ e f. beside f))) (proc_of m q).doing (alone.opened c.node q other))
          ])
          (λ away. carried (proc_at a q) (other-quiet (proc_at a q) (apart-proc a q (λ e f. away e))) (proc_of (old.nodes a) q).doing (alone.opened a q other));
      ended = (end-alone, alone.ended);
      nodes = (next.is.node, alone.nodes);
    }

  alone-later : AreAlone s new
  alone-later = subst (AreAlone s) (sym next.is.world)
      (elim (proc-step s setup old c new next heard) [ rests all apart ↦ when-rests all apart | comes p proc others progress ↦ when-comes p proc others progress ])

-- in every run
pub alone-are : (s : Setup) → IsSetup s → (cs : List Choice) (w : World) → world_after s cs ≡ Some w → IsTimely w → AreAlone s w
alone-are s setup = every-kept-run s setup (setup-procs s setup) (AreAlone s)
    (record { opened = λ n. by_proc (λ p. IsAloneDoing (proc_at n p) [] (proc_of (first_node (given s n)) p).doing) tt tt tt tt; ended = tt; nodes = tt })
    (λ cs old c new e timely next at. alone-later s setup old c new next (heard-are s setup (setup-procs s setup) cs old e timely) at)
