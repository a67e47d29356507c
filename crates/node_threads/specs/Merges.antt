-- What the logs of threads are, by place.
use Rattle.std.specs.Prelude.{ℕ, List}
use Rattle.dom_history.specs.declared.event.NodeLog.{NodeLog}
use Rattle.dom_history.specs.declared.plan.FateRow.{FateRow}
use Rattle.dom_history.specs.Plans.{IsPlan}
use Rattle.node_runs.specs.Setups.{Setup, IsSetup}
use Rattle.node_runs.specs.Runs.{World}
use Rattle.local_runs.specs.LocalRuns.{Own}
use Rattle.node_threads.specs.Ran.{AreEndedRuns, EndsWhereMerged}

-- the logs that threads hand back are by place a recent run by the plan that has ended
abbrev pub EndWhereMerged : Type 0
EndWhereMerged =
    (s : Setup) (plan : List FateRow) (logs : List NodeLog) (owns : ℕ → List Own) (worlds : ℕ → World) → IsSetup s → IsPlan plan →
    AreEndedRuns s plan logs owns worlds → EndsWhereMerged s plan logs worlds
