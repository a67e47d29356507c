use Rattle.node_runs.proofs.SampleRuns.{second_runs, second_history}
use Rattle.node_runs.proofs.laws.the_second_run.Goals as goal

pub returns : goal.returns
returns c = record { run = second_runs; history = second_history }
