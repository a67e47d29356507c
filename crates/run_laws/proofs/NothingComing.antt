-- Where no event is enabled while an operation is open, nothing waits on any link, and no notice is open.
use Rattle.std.proofs.Common.{◌≡◌, ℕ, true, false, List, [], map, Some, sym, ap, subst, ◌∙◌}
use Rattle.std.specs.Prelude.{◌^◌, ◌≤◌}
use Rattle.dom_history.specs.declared.plan.FateRow.{FateRow}
use Rattle.dom_history.specs.Objects.{is_node}
use Rattle.fault_handler.specs.Invariant.{IsProc}
use Rattle.node_runs.specs.Setups.{Setup, IsSetup, given}
use Rattle.node_runs.specs.NodeStates.{OpenOp, NodeState, proc_of, is_ended}
use Rattle.node_runs.specs.Incomings.{has_program}
use Rattle.node_runs.specs.NodesKeep.{IsTimely}
use Rattle.node_runs.specs.Runs.{World, choice_of}
use Rattle.world_runs.specs.ByPlace.{by_place}
use Rattle.world_runs.specs.Waiting.{waiting}
use Rattle.world_runs.specs.Turns.{enabled_events, after_turns}
use Rattle.world_runs.proofs.Merging.{turns-merge}
use Rattle.run_laws.proofs.NotEnabled.{node-among}
use Rattle.run_laws.proofs.OpenRuns.{none-ended, open-program}
use Rattle.run_laws.proofs.Stuck.{nothing-waits}

module _ (s : Setup) (plan : List FateRow) (setup : IsSetup s) (cs : List ℕ) (w : World) (e : after_turns s plan cs ≡ Some w) (timely : IsTimely w) (n p : ℕ) (node : is_node s.opening n ≡ true) (proc : IsProc p)
    (o : OpenOp) (open_op : (proc_of (w.nodes n) p).doing ≡ Some o) where
  pub all-alive : (a : ℕ) → is_node s.opening a ≡ true → is_ended (given s a) (w.nodes a) ≡ false
  all-alive a other =
      let merged = (turns-merge s setup plan cs w e).merged timely in
      ap (λ (x : NodeState). is_ended (given s a) x) (merged.like.nodes a)
      ∙ none-ended s setup (map choice_of (by_place w.done)) merged.world merged.run (λ m. subst (λ (x : NodeState). x.tick ≤ 2 ^ 40) (merged.like.nodes m) (timely m)) n p node proc o
      (ap (λ (x : NodeState). (proc_of x p).doing) (sym (merged.like.nodes n)) ∙ open_op) a other

  pub driven : has_program (given s n) p ≡ true
  driven =
      let merged = (turns-merge s setup plan cs w e).merged timely in
      open-program s setup (map choice_of (by_place w.done)) merged.world merged.run (λ m. subst (λ (x : NodeState). x.tick ≤ 2 ^ 40) (merged.like.nodes m) (timely m)) n p node proc o
      (ap (λ (x : NodeState). (proc_of x p).doing) (sym (merged.like.nodes n)) ∙ open_op)

  pub no-link : enabled_events s plan w ≡ [] → (from to : ℕ) → is_node s.opening from ≡ true → is_node s.opening to ≡ true → waiting plan from to w.done ≡ []
  no-link none from to sender receiver = nothing-waits s setup plan w none to receiver (all-alive to receiver) cs e timely from (node-among s setup.start.nodes_high from sender)
