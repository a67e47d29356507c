use Rattle.node_runs.proofs.SettingUp.{setup-procs, setup-gives}
use Rattle.node_runs.proofs.laws.what_a_setup_gives.Goals as goal

pub returns : goal.returns
returns c = record { given = setup-gives; procs = setup-procs }
