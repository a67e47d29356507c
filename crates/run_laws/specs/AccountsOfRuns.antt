-- What the account of a run's events says of the run.
use Rattle.std.specs.Prelude.{◌≡◌, ℕ, ◌*◌, ◌≤◌, Some, List, length, reverse}
use Rattle.dom_history.specs.declared.plan.FateRow.{FateRow}
use Rattle.dom_history.specs.Events.{Happening}
use Rattle.node_runs.specs.Setups.{Setup, IsSetup}
use Rattle.node_runs.specs.NodesKeep.{IsTimely}
use Rattle.node_runs.specs.Runs.{World, IsRun, world_of}
use Rattle.node_runs.specs.RunHistories.{history_of}
use Rattle.node_runs.specs.Deliveries.{IsPlanned}
use Rattle.run_laws.specs.LinkFaults.{fault_entries, notices, marked}

-- the three numbers of a run: its link faults, its notices, and its frames that are lost or late by a plan
pub record IsAccountOf (s : Setup) (plan : List FateRow) (es : List Happening) (faults told gone : ℕ) : Type 0 where
  -- as many entries of the history were answered by a link fault
  pub faults_are : faults ≡ length (fault_entries (history_of s es))
  -- as many notices were there
  pub told_are : told ≡ notices es
  -- as many frames are lost or late by their places on their links
  pub gone_are : gone ≡ marked plan es
  -- each link fault has eight notices
  pub eight : 8 * faults ≤ told
  -- and where the run is by the plan each notice has a frame
  pub planned : IsPlanned s plan es → told ≤ gone

-- of each run that happened in this order these are the three numbers
abbrev pub AccountsFor : List FateRow → List Happening → ℕ → ℕ → ℕ → Type 0
AccountsFor plan happened faults told gone =
    (s : Setup) (w : World) → IsSetup s → IsRun s (reverse happened) → world_of s (reverse happened) ≡ Some w → IsTimely w →
    IsAccountOf s plan (reverse happened) faults told gone
