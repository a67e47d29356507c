-- That a run is recent if no tick of it is above 2^40.
use Rattle.std.specs.Prelude.{◌≡◌, Some, List}
use Rattle.dom_history.specs.Events.{Happening}
use Rattle.node_runs.specs.Setups.{Setup}
use Rattle.node_runs.specs.NodesKeep.{IsTimely}
use Rattle.node_runs.specs.Runs.{World, world_of}
use Rattle.recent_runs.specs.Recent.{IsRecent}

-- the events are a recent run, where they lead to a world with no such tick
abbrev pub IsRecentWhereTimely : Setup → List Happening → Type 0
IsRecentWhereTimely s es = (w : World) → world_of s es ≡ Some w → IsTimely w → IsRecent s es
