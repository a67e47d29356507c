-- What is said of all runs by a plan.
use Rattle.std.specs.Prelude.{◌≡◌, Some, List}
use Rattle.dom_history.specs.declared.plan.FateRow.{FateRow}
use Rattle.dom_history.specs.Events.{Happening}
use Rattle.node_runs.specs.Setups.{Setup}
use Rattle.node_runs.specs.NodesKeep.{IsTimely}
use Rattle.node_runs.specs.Runs.{World, world_of}
use Rattle.node_runs.specs.Deliveries.{IsPlanned}

-- it holds of each run of this set-up by this plan in which no tick is above the greatest one, and of its world
abbrev pub InEveryRunBy : Setup → List FateRow → (List Happening → World → Type 0) → Type 0
InEveryRunBy s plan P = (es : List Happening) (w : World) → IsPlanned s plan es → world_of s es ≡ Some w → IsTimely w → P es w
