-- While an operation is open no node has ended.
use Rattle.std.proofs.Common.{◌≡◌, ℕ, ◌+◌, ◌<◌, Bool, true, false, List, [], ◌∷◌, Some, inl, inr, subst, arith}
use Rattle.std.proofs.lemmas.Bool.Decides.{nat_tests}
use Rattle.uid_names.proofs.ListLemmas.{by_cases}
use Rattle.dom_history.specs.Histories.{SomeOf}
use Rattle.dom_history.specs.Objects.{is_node}
use Rattle.fault_handler.specs.Invariant.{IsProc}
use Rattle.node_runs.specs.Setups.{Setup, IsSetup, given}
use Rattle.node_runs.specs.NodeStates.{OpenOp, proc_of, is_ended}
use Rattle.node_runs.specs.Incomings.{has_program}
use Rattle.node_runs.specs.NodesKeep.{IsTimely}
use Rattle.node_runs.specs.Runs.{World, SentMark, Choice, world_after}
use Rattle.node_runs.specs.CallsKeep.{EachOf}
use Rattle.run_laws.specs.Phases.{IsMarkBelow, IsOpenInPhase, AreInPhase}
use Rattle.run_laws.proofs.InPhases.{in_phases-are}

-- a node's process is past each phase of which the node sent the mark
past-sent : (tick n phase p : ℕ) (has : ℕ → Bool) (marks : List SentMark) → has p ≡ true → (phases : ℕ → ℕ) → SomeOf (IsMarkBelow tick n phase) marks
    → EachOf (λ (m : SentMark). m.node ≡ n → (q : ℕ) → has q ≡ true → m.phase < phases q) marks → phase < phases p
past-sent tick n phase p has [] is phases some each = absurd some
past-sent tick n phase p has (m ∷ marks) is phases (inl here) each = let f = each.0 here.0 p is in let g = here.1 in omega (arith, f, g)
past-sent tick n phase p has (m ∷ marks) is phases (inr some) each = past-sent tick n phase p has marks is phases some each.1

module _ (s : Setup) (setup : IsSetup s) (cs : List Choice) (w : World) (e : world_after s cs ≡ Some w) (timely : IsTimely w) where
  in_phase : AreInPhase s w
  in_phase = in_phases-are s setup cs w e timely

  pub open-program : (n p : ℕ) → is_node s.opening n ≡ true → IsProc p → (o : OpenOp) → (proc_of (w.nodes n) p).doing ≡ Some o → has_program (given s n) p ≡ true
  open-program n p node proc o open_op = (subst (IsOpenInPhase s w.marks n p (proc_of (w.nodes n) p).phase) open_op ((in_phase.nodes n node).procs p proc).doing).0

  over-all : (n p : ℕ) → is_node s.opening n ≡ true → has_program (given s n) p ≡ true → (a : ℕ) → is_node s.opening a ≡ true → s.phases < (w.nodes a).phase → s.phases < (proc_of (w.nodes n) p).phase
  over-all n p node has a other over =
      past-sent ((w.nodes a).tick + 1) n s.phases p (has_program (given s n)) w.marks has (λ q. (proc_of (w.nodes n) q).phase)
      ((in_phase.nodes a other).behind n s.phases node setup.phases_low over) (in_phase.nodes n node).sent

  pub none-ended : (n p : ℕ) → is_node s.opening n ≡ true → IsProc p → (o : OpenOp) → (proc_of (w.nodes n) p).doing ≡ Some o → (a : ℕ) → is_node s.opening a ≡ true → is_ended (given s a) (w.nodes a) ≡ false
  none-ended n p node proc o open_op a other =
      by_cases (is_ended (given s a) (w.nodes a)) (is_ended (given s a) (w.nodes a) ≡ false)
      (λ h.
      let is = subst (IsOpenInPhase s w.marks n p (proc_of (w.nodes n) p).phase) open_op ((in_phase.nodes n node).procs p proc).doing in
      let over : s.phases < (w.nodes a).phase = grind (arith, nat_tests, h) in
      let past = over-all n p node is.0 a other over in
      let most = is.1 in absurd (omega (arith, past, most)))
      (λ h. h)
