-- What an event of a run does to its node's desk.
use Rattle.node_runs.specs.Setups.{Setup, IsSetup, given}
use Rattle.node_runs.specs.Doings.{ticked}
use Rattle.node_runs.specs.Runs.{World, Choice}
use Rattle.node_runs.proofs.SettingUp.{setup-gives}
use Rattle.run_laws.proofs.HearingRuns.{IsKeptNext, event-incoming}
use Rattle.run_laws.specs.DeskSteps.{NodeMove}
use Rattle.run_laws.proofs.DeskSteps.{step-desk}

pub desk-moves : (s : Setup) → IsSetup s → (old : World) (c : Choice) (new : World) → (next : IsKeptNext s old c new) → NodeMove (given s c.node) (ticked (old.nodes c.node) next.is.incoming) next.is.incoming next.is.step
desk-moves s setup old c new next =
    step-desk (given s c.node) (old.nodes c.node) c.what next.is.incoming c.dropped next.is.step (setup-gives s setup c.node next.is.node) (next.kept.nodes c.node next.is.node)
    (event-incoming s old c new next) next.is.steps
