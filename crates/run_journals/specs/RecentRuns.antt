-- Runs in which the page that makes room is the clean one used longest ago. A list of events has the last one first.
use Rattle.std.specs.Prelude.{List}
use Rattle.dom_history.specs.Events.{Happening}
use Rattle.node_runs.specs.Setups.{Setup}
use Rattle.node_runs.specs.Runs.{IsRun}
use Rattle.recent_runs.specs.Recent.{IsRecent}

-- the events are a run, and a recent one
pub record IsRecentRun (s : Setup) (es : List Happening) : Type 0 where
  pub run : IsRun s es
  pub recent : IsRecent s es
