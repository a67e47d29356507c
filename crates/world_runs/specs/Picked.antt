-- The run that a seed picks.
use Rattle.std.specs.Prelude.{◌≡◌, ℕ, List}
use Rattle.dom_history.specs.declared.plan.FateRow.{FateRow}
use Rattle.dom_history.specs.Events.{Happening}
use Rattle.node_runs.specs.Setups.{Setup}
use Rattle.node_runs.specs.Runs.{World}
use Rattle.world_runs.specs.Draws.{EndsIn}
use Rattle.world_runs.specs.ByPlace.{by_place}

-- they are the events that the turns of a seed do, by place, until no event is enabled; no tick comes to the last one
pub record IsPicked (s : Setup) (plan : List FateRow) (seed last : ℕ) (es : List Happening) : Type 0 where
  pub world : World
  pub ends : EndsIn s plan seed last world
  pub events : es ≡ by_place world.done
