-- That the events of runs of nodes alone are by place a run by a plan.
use Rattle.std.specs.Prelude.{ℕ, List}
use Rattle.dom_history.specs.declared.plan.FateRow.{FateRow}
use Rattle.dom_history.specs.Events.{Happening}
use Rattle.dom_history.specs.Plans.{IsPlan}
use Rattle.node_runs.specs.Setups.{Setup}
use Rattle.node_runs.specs.Deliveries.{IsPlanned}
use Rattle.local_runs.specs.LocalRuns.{Own, AreDelivered, IsMergeOf}

-- where the runs are delivered by the plan, and these are their events by place, it is so
abbrev pub IsPlannedWhereDelivered : Setup → List FateRow → (ℕ → List Own) → List Happening → Type 0
IsPlannedWhereDelivered s plan owns es = IsPlan plan → AreDelivered plan owns → IsMergeOf owns es → IsPlanned s plan es
