-- Where all nodes of a run have ended, its history has: nothing is open, and each program has come to its end.
use Rattle.std.proofs.Common.{◌≡◌, ℕ, zero, suc, ◌+◌, ◌≤◌, ◌<◌, Bool, true, false, List, [], ◌∷◌, ◌++◌, Option, Some, None, inl, inr, refl, sym, ap, subst, ◌∙◌, arith, map}
use Rattle.std.specs.Prelude.{◌&&◌, nat_le}
use Rattle.std.proofs.lemmas.Bool.Decides.{nat_tests}
use Rattle.uid_names.proofs.ListLemmas.{by_cases}
use Rattle.uid_names.specs.Names.{ProcName}
use Rattle.uid_names.proofs.Passed.{left-true, right-true}
use Rattle.dom_history.specs.declared.op.Entry.{Entry}
use Rattle.dom_history.specs.declared.op.Want.{Want}
use Rattle.dom_history.specs.declared.op.Want.TheVariants.{Do, Phase, Done}
use Rattle.dom_history.specs.Events.{Happening}
use Rattle.dom_history.specs.Objects.{is_node}
use Rattle.dom_history.specs.Histories.{SomeOf}
use Rattle.dom_history.specs.Follows.{Heard, Reaches, starts, answered, passed, IsDoneAt, IsEnded}
use Rattle.fault_handler.specs.Desks.{procs}
use Rattle.fault_handler.specs.Invariant.{IsProc}
use Rattle.fault_handler.proofs.Fours.{first, second, third, fourth}
use Rattle.node_runs.specs.Setups.{Setup, IsSetup, given}
use Rattle.node_runs.specs.NodeStates.{OpenOp, proc_of}
use Rattle.node_runs.specs.Incomings.{has_program}
use Rattle.node_runs.specs.NodesKeep.{IsTimely}
use Rattle.node_runs.specs.Runs.{SentMark, World, Choice, choice_of, world_of, world_after, HasEnded}
use Rattle.node_runs.specs.RunHistories.{doing_of, pending_in, pending_at, pending_to, history_in, history_if, history_of}
use Rattle.node_runs.specs.CallsKeep.{EachOf}
use Rattle.node_runs.proofs.SettingUp.{setup-procs}
use Rattle.run_laws.specs.DecidedReplies.{proc_at}
use Rattle.run_laws.proofs.HearingRuns.{heard-are}
use Rattle.run_laws.proofs.HistoryEntries.{IsReached, reached-in}
use Rattle.run_laws.proofs.Following.{history-follows}
use Rattle.run_laws.specs.Phases.{IsMarkBelow, IsOpenInPhase, AreInPhase}
use Rattle.run_laws.specs.Paced.{is_driven, IsPacedTo, ArePaced}
use Rattle.run_laws.proofs.InPhases.{in_phases-are}

-- a program comes to no phase behind the last one
within-phases : (ask : Heard → Want) (last : ℕ) → 1 ≤ last → IsPacedTo ask last → {told : List Entry} {heard : Heard} {phase : ℕ} → Reaches ask told heard phase → phase ≤ last
within-phases ask last low paced starts = low
within-phases ask last low paced (answered e is asks same) = within-phases ask last low paced is
within-phases ask last low paced (passed is asks) = let f = paced _ _ _ is asks in omega (arith, f)

-- a program that is done at the start hears nothing
hears-nothing : (ask : Heard → Want) → ask [] ≡ Done → {told : List Entry} {heard : Heard} {phase : ℕ} → Reaches ask told heard phase → heard ≡ []
hears-nothing ask done starts = refl
hears-nothing ask done (answered {past} {heard} {phase} e is asks same) = absurd (let f : Done ≡ Do e.op = sym done ∙ ap ask (sym (hears-nothing ask done is)) ∙ asks in cc)
hears-nothing ask done (passed {past} {heard} {phase} is asks) = absurd (let f : Done ≡ Phase = sym done ∙ ap ask (sym (hears-nothing ask done is)) ∙ asks in cc)

past-mark : (tick node phase low : ℕ) (marks : List SentMark) → SomeOf (IsMarkBelow tick node phase) marks → EachOf (λ (m : SentMark). m.node ≡ node → m.phase < low) marks → phase < low
past-mark tick node phase low [] some each = absurd some
past-mark tick node phase low (m ∷ marks) (inl is) each = let e = each.0 is.0 in let f = is.1 in omega (arith, e, f)
past-mark tick node phase low (m ∷ marks) (inr some) each = past-mark tick node phase low marks some each.1

-- of one process
each-of : (node p : ℕ) (phases : ℕ → ℕ) (test : ℕ → Bool) → test p ≡ true → (marks : List SentMark) → EachOf (λ (m : SentMark). m.node ≡ node → (q : ℕ) → test q ≡ true → m.phase < phases q) marks → EachOf (λ (m : SentMark). m.node ≡ node → m.phase < phases p) marks
each-of node p phases test passes [] each = tt
each-of node p phases test passes (m ∷ marks) each = ((λ here. each.0 here p passes), each-of node p phases test passes marks each.1)

module _ (s : Setup) (setup : IsSetup s) (cs : List Choice) (w : World) (e : world_after s cs ≡ Some w) (timely : IsTimely w) (ended : HasEnded s w) where
  in_phase : AreInPhase s w
  in_phase = in_phases-are s setup cs w e timely

  -- each program has come past all phases
  past-all : (n p : ℕ) → is_node s.opening n ≡ true → has_program (given s n) p ≡ true → s.phases < (proc_of (w.nodes n) p).phase
  past-all n p node has =
      let is = in_phase.nodes n node in
      let over : s.phases < (w.nodes n).phase = (let h = ended n node in grind (arith, nat_tests, h)) in
      past-mark ((w.nodes n).tick + 1) n s.phases (proc_of (w.nodes n) p).phase w.marks (is.behind n s.phases node setup.phases_low over)
      (each-of n p (λ q. (proc_of (w.nodes n) q).phase) (has_program (given s n)) has w.marks is.sent)

  none-open : (n p : ℕ) → is_node s.opening n ≡ true → IsProc p → pending_in (proc_at n p) (doing_of w (proc_at n p)) ≡ []
  none-open n p node proc = by (doing_of w (proc_at n p)) (((in_phase.nodes n node).procs p proc).doing)
    where
      by : (o : Option OpenOp) → IsOpenInPhase s w.marks n p (proc_of (w.nodes n) p).phase o → pending_in (proc_at n p) o ≡ []
      by None is = refl
      by (Some o) is = absurd (let a = past-all n p node is.0 in let b = is.1 in omega (arith, a, b))

  none-at : (n : ℕ) → is_node s.opening n ≡ true → (ps : List ℕ) → EachOf IsProc ps → pending_at w n ps ≡ []
  none-at n node [] each = refl
  none-at n node (p ∷ ps) each = ap (λ xs. xs ++ pending_at w n ps) (none-open n p node each.0) ∙ none-at n node ps each.1

  none-to : (k : ℕ) → k ≤ s.opening.nodes → pending_to w k ≡ []
  none-to zero within = refl
  none-to (suc k) within =
      ap (λ xs. xs ++ pending_at w (suc k) procs) (none-to k (omega (arith, within)))
      ∙ none-at (suc k) (let h : (nat_le 1 (suc k) && nat_le (suc k) s.opening.nodes) ≡ true = grind (arith, nat_tests, within) in h) procs (first, (second, (third, (fourth, tt))))

  module _ (paced : ArePaced s) where
    reached : (p : ProcName) → IsProc p.number → IsReached s (history_in s w) w p
    reached = reached-in s w (heard-are s setup (setup-procs s setup) cs w e timely)

    -- each program is done
    pub program-done : (p : ProcName) → IsProc p.number → s.asks p (proc_of (w.nodes p.node) p.number).heard ≡ Done
    program-done p proc = by_cases (is_driven s p) (s.asks p (proc_of (w.nodes p.node) p.number).heard ≡ Done)
        (λ driven. elim (reached p proc).in_phase [
          | inr done ↦ done
          | inl same ↦ absurd (
              let node = left-true (is_node s.opening p.node) (has_program (given s p.node) p.number) driven in
              let has = right-true (is_node s.opening p.node) (has_program (given s p.node) p.number) driven in
              let over = past-all p.node p.number node has in
              let most = within-phases (s.asks p) s.phases setup.phases_low (paced.phases p) (reached p proc).reaches in
              omega (arith, over, same, most))
        ])
        (λ none. let done = paced.absent p none in ap (s.asks p) (hears-nothing (s.asks p) done (reached p proc).reaches) ∙ done)

    done-driven : (p : ProcName) → is_driven s p ≡ true → IsDoneAt (s.asks p) (history_in s w) p
    done-driven p driven =
        let proc = setup-procs s setup p.node p.number (right-true (is_node s.opening p.node) (has_program (given s p.node) p.number) driven) in
        let is = reached p proc in
        record { heard = (proc_of (w.nodes p.node) p.number).heard; phase = is.phase; reaches = is.reaches; finished = program-done p proc }

    done-absent : (p : ProcName) → is_driven s p ≡ false → IsDoneAt (s.asks p) (history_in s w) p
    done-absent p none =
        let is = history-follows s setup cs w e timely p in
        let done = paced.absent p none in
        record { heard = is.heard; phase = is.phase; reaches = is.reaches; finished = ap (s.asks p) (hears-nothing (s.asks p) done is.reaches) ∙ done }

    pub history-ended : IsEnded s.asks (history_in s w)
    history-ended = record {
      nothing_open = none-to s.opening.nodes (omega arith);
      all_done = λ p. by_cases (is_driven s p) (IsDoneAt (s.asks p) (history_in s w) p) (done-driven p) (done-absent p);
    }

-- and that of its events
pub events-ended : (s : Setup) → IsSetup s → ArePaced s → (es : List Happening) (w : World) → world_of s es ≡ Some w → IsTimely w → HasEnded s w → IsEnded s.asks (history_of s es)
events-ended s setup paced es w e timely ended = subst (λ (o : Option World). IsEnded s.asks (history_if s o)) (sym e) (history-ended s setup (map choice_of es) w e timely ended paced)
