use Rattle.node_runs.proofs.SampleRuns.{first_runs, first_history}
use Rattle.node_runs.proofs.laws.the_first_run.Goals as goal

pub returns : goal.returns
returns c = record { run = first_runs; history = first_history }
