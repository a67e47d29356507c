-- What the moves of a run's history stand on: what was done and told, what desks know of it, and that desks and homes reply as one store
-- does.
use Rattle.std.specs.Prelude.{◌≡◌, Some, List}
use Rattle.node_runs.specs.Setups.{Setup}
use Rattle.node_runs.specs.NodesKeep.{IsTimely}
use Rattle.node_runs.specs.Runs.{World, Choice, world_after}
use Rattle.run_laws.specs.NotedEffects.{AreEffectsNoted}
use Rattle.run_laws.specs.NotedDeeds.{AreDeedsTold}
use Rattle.run_laws.specs.States.{AreStatesTold}
use Rattle.run_laws.specs.DeskReplies.{AreDeskReplies}
use Rattle.run_laws.specs.HomeReplies.{AreHomeReplies}

pub record IsKnown (s : Setup) (w : World) : Type 0 where
  pub effects : AreEffectsNoted w
  pub deeds : AreDeedsTold s w
  pub states : AreStatesTold s w
  pub desks : AreDeskReplies s w
  pub homes : AreHomeReplies s w

-- of every run in which no tick is above 2^40
abbrev pub IsAlwaysKnown : Setup → Type 0
IsAlwaysKnown s = (cs : List Choice) (w : World) → world_after s cs ≡ Some w → IsTimely w → IsKnown s w
