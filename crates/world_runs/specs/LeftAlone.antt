-- The nodes that an event leaves alone.
use Rattle.std.specs.Prelude.{◌≡◌, ◌≢◌, ℕ, List, []}
use Rattle.dom_history.specs.declared.plan.FateRow.{FateRow}
use Rattle.dom_history.specs.Events.{Happening}
use Rattle.node_runs.specs.Runs.{World}
use Rattle.world_runs.specs.Sendings.{sent_by}
use Rattle.world_runs.specs.OpenNotices.{notices_by}

-- between these worlds an event of another node sent nothing to this one, and no frame of which this one is told that it is lost or late
pub record IsLeftAlone (plan : List FateRow) (old new : World) (n : ℕ) (e : Happening) : Type 0 where
  pub other : e.place.node ≢ n
  pub nothing : sent_by e.place.node n e ≡ []
  pub quiet : notices_by plan new n e old.done ≡ []
