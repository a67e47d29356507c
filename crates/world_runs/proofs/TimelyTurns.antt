-- Turns while no tick is above the greatest one: each is a step of its node.
use Rattle.std.proofs.Common.{◌≡◌, ℕ, List, [], ◌∷◌, Some, sym, subst}
use Rattle.std.proofs.lemmas.Option.{same_Some}
use Rattle.uid_names.proofs.Somes.{bind-some}
use Rattle.dom_history.specs.declared.plan.FateRow.{FateRow}
use Rattle.node_runs.specs.Setups.{Setup, IsSetup, given}
use Rattle.node_runs.specs.NodeStates.{NodeState}
use Rattle.node_runs.specs.Steps.{step_of}
use Rattle.node_runs.specs.NodesKeep.{IsTimely}
use Rattle.node_runs.specs.Runs.{World, first_world}
use Rattle.world_runs.specs.Turns.{turn, after_turns}
use Rattle.world_runs.proofs.Turning.{IsTurn, turn-is, timely-before}
use Rattle.world_runs.proofs.Merging.{Merged, turns-merge, steps}

-- a turn that is a step of its node
pub record IsTimelyTurn (s : Setup) (plan : List FateRow) (old new : World) : Type 0 where
  pub is : IsTurn s plan old new
  pub timely : IsTimely old
  pub merged : Merged s old
  pub steps : step_of (given s is.act.node) (old.nodes is.act.node) is.act.what is.incoming is.step.effects.dropped ≡ Some is.step

module _ (s : Setup) (setup : IsSetup s) (plan : List FateRow) where
  pub timely-turn : (cs : List ℕ) (old new : World) → after_turns s plan cs ≡ Some old → IsTurn s plan old new → IsTimely old → IsTimelyTurn s plan old new
  timely-turn cs old new before is timely =
      let merged = (turns-merge s setup plan cs old before).merged timely in
      record {
        is = is;
        timely = timely;
        merged = merged;
        steps =
            subst (λ (n : NodeState). step_of (given s is.act.node) n is.act.what is.incoming is.step.effects.dropped ≡ Some is.step) (sym (merged.like.nodes is.act.node))
            (steps s setup plan old new is merged timely);
      }

  -- what holds at the start, and after each turn where it held before it, holds after all turns while they are timely
  module _ (P : World → Type 0) (first : P (first_world s)) (later : (old new : World) → IsTimelyTurn s plan old new → P old → P new) where
    pub every-timely : (cs : List ℕ) (w : World) → after_turns s plan cs ≡ Some w → IsTimely w → P w
    every-timely [] w e timely = subst P (same_Some (first_world s) w e) first
    every-timely (c ∷ cs) w e timely =
        let found = bind-some (after_turns s plan cs) (λ (v : World). turn s plan v c) w e in
        let is = turn-is s plan found.0 c w found.2 in
        let before = timely-before s plan found.0 w is timely in
        later found.0 w (timely-turn cs found.0 w found.1 is before) (every-timely cs found.0 found.1 before)
