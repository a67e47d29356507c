use Rattle.node_runs.proofs.SettingUp.{setup-procs}
use Rattle.run_laws.proofs.HearingRuns.{heard-are}
use Rattle.run_laws.proofs.calls.open_operations_stand_last.Goals as goal

pub returns : goal.returns
returns c = λ s setup. heard-are s setup (setup-procs s setup)
