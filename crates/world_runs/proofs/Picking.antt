-- The run that a seed picks is one by the plan, and there is no other.
use Rattle.std.proofs.Common.{◌≡◌, ℕ, ◌≤◌, List, Some, sym, ap, subst, ◌∙◌, arith}
use Rattle.std.specs.Prelude.{◌^◌}
use Rattle.dom_history.specs.declared.plan.FateRow.{FateRow}
use Rattle.dom_history.specs.Events.{Happening}
use Rattle.dom_history.specs.Plans.{IsPlan}
use Rattle.node_runs.specs.Setups.{Setup, IsSetup}
use Rattle.node_runs.specs.NodesKeep.{IsTimely}
use Rattle.node_runs.specs.Runs.{World, world_of}
use Rattle.node_runs.specs.Deliveries.{IsPlanned}
use Rattle.world_runs.specs.ByPlace.{by_place, IsLike}
use Rattle.world_runs.specs.Draws.{draws}
use Rattle.world_runs.specs.Picked.{IsPicked}
use Rattle.world_runs.proofs.Ending.{one-end}
use Rattle.world_runs.proofs.Merging.{turns-merge}
use Rattle.world_runs.proofs.Planning.{turns-planned}

module _ (s : Setup) (plan : List FateRow) (seed last : ℕ) where
  pub one-picked : (es fs : List Happening) → IsPicked s plan seed last es → IsPicked s plan seed last fs → es ≡ fs
  one-picked es fs a b = a.events ∙ (ap (λ (w : World). by_place w.done) (one-end s plan seed last a.world b.world a.ends b.ends) ∙ sym b.events)

  module _ (setup : IsSetup s) (most : last ≤ 2 ^ 40) (es : List Happening) (is : IsPicked s plan seed last es) where
    timely : IsTimely is.world
    timely n = let b = is.ends.below n in omega (arith, b, most)

    pub picked-planned : IsPlan plan → IsPlanned s plan es
    picked-planned kept = subst (IsPlanned s plan) (sym is.events) (turns-planned s setup plan kept (draws seed is.ends.count) is.world is.ends.comes timely)

    pub picked-world : (v : World) × (world_of s es ≡ Some v) × IsLike is.world v
    picked-world =
        let m = (turns-merge s setup plan (draws seed is.ends.count) is.world is.ends.comes).merged timely in
        (m.world, ap (world_of s) is.events ∙ m.run, m.like)
