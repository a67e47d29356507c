-- Worlds like each other have the same ticks and the same ends.
use Rattle.std.proofs.Common.{◌≡◌, ◌≤◌, true, subst}
use Rattle.std.specs.Prelude.{◌^◌}
use Rattle.node_runs.specs.NodeStates.{NodeState, is_ended}
use Rattle.node_runs.specs.NodesKeep.{IsTimely}
use Rattle.node_runs.specs.Runs.{World, HasEnded}
use Rattle.node_runs.specs.Setups.{Setup, given}
use Rattle.world_runs.specs.ByPlace.{IsLike}

module _ (w v : World) (like : IsLike w v) where
  pub like-timely : IsTimely w → IsTimely v
  like-timely timely n = subst (λ (x : NodeState). x.tick ≤ 2 ^ 40) (like.nodes n) (timely n)

  pub like-ended : (s : Setup) → HasEnded s w → HasEnded s v
  like-ended s ended n node = subst (λ (x : NodeState). is_ended (given s n) x ≡ true) (like.nodes n) (ended n node)
