-- What merged logs are, where they are the logs of runs of nodes alone.
use Rattle.std.specs.Prelude.{◌≢◌, ℕ, List, reverse, AllPairs}
use Rattle.dom_history.specs.declared.event.NodeLog.{NodeLog}
use Rattle.dom_history.specs.declared.plan.FateRow.{FateRow}
use Rattle.dom_history.specs.Events.{Happening}
use Rattle.dom_history.specs.Plans.{IsPlan}
use Rattle.node_runs.specs.Setups.{Setup, IsSetup}
use Rattle.node_runs.specs.Runs.{World, IsRun}
use Rattle.node_runs.specs.Deliveries.{IsPlanned}
use Rattle.local_runs.specs.LocalRuns.{Own, AreLocalRuns, AreDelivered, LeadTogether}
use Rattle.local_runs.specs.NamedRuns.{AreAllNamedAlone}
use Rattle.local_runs.specs.TimelyRuns.{IsRecentWhereTimely}
use Rattle.local_runs.specs.Logs.{AreLogsOf}

-- no two of these logs are of one node
abbrev pub AreApart : List NodeLog → Type 0
AreApart logs = AllPairs (λ a b. a.node ≢ b.node) logs

-- the events, the last one first, of runs of nodes alone in which all that is received was sent are one run, to which each node comes as
-- it does alone; by each plan by which they are delivered; and where each node makes room as its cache names it, a recent one
pub record AreOneRun (s : Setup) (owns : ℕ → List Own) (ws : ℕ → World) (es : List Happening) : Type 0 where
  pub run : IsRun s es
  pub leads : LeadTogether s ws es
  pub planned : (plan : List FateRow) → IsPlan plan → AreDelivered plan owns → IsPlanned s plan es
  pub recent : IsSetup s → AreAllNamedAlone s owns → IsRecentWhereTimely s es

-- so are these events, of all such runs of which these are the logs
abbrev pub AreRunOfLogs : List NodeLog → List Happening → Type 0
AreRunOfLogs logs events = (s : Setup) (owns : ℕ → List Own) (ws : ℕ → World) → AreLocalRuns s owns ws → AreLogsOf owns logs → AreOneRun s owns ws (reverse events)
