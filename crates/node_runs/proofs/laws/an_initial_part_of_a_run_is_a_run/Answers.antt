use Rattle.node_runs.proofs.Worlds.{initial-run}
use Rattle.node_runs.proofs.laws.an_initial_part_of_a_run_is_a_run.Goals as goal

pub returns : goal.returns
returns c = λ s e es run. initial-run s e es run
