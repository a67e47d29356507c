-- What is said of what turns did, ended or not.
use Rattle.std.specs.Prelude.{List}
use Rattle.dom_history.specs.declared.plan.FateRow.{FateRow}
use Rattle.node_runs.specs.Setups.{Setup}
use Rattle.node_runs.specs.Runs.{World, HasEnded}
use Rattle.node_runs.specs.Deliveries.{IsPlanned}
use Rattle.world_runs.specs.ByPlace.{by_place, LeadsAlike}
use Rattle.run_laws.specs.EveryRun.{IsRightRun}
use Rattle.world_runs.specs.EndedRuns.{EndsAlike}
use Rattle.recent_runs.specs.Recent.{IsRecent}

-- of the events that led to a world, by place
pub record IsRightSoFar (s : Setup) (plan : List FateRow) (w : World) : Type 0 where
  -- they are a run by the plan: on each link frames were taken in the order of delivery, and a lost or late frame was told once at most
  pub planned : IsPlanned s plan (by_place w.done)
  -- they lead to nodes, frames, marks and calls as in this world
  pub leads : LeadsAlike s (by_place w.done) w
  -- all is right after each of them, as one store would have it and as the programs ask
  pub right : IsRightRun s (by_place w.done)
  -- where all nodes have ended the run has
  pub ended : HasEnded s w → EndsAlike s plan (by_place w.done) w
  -- each page that was dropped for another was the clean one used longest ago
  pub recent : IsRecent s (by_place w.done)
