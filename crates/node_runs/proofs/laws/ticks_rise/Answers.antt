use Rattle.node_runs.proofs.Ticks.{step_of-tick}
use Rattle.node_runs.proofs.laws.ticks_rise.Goals as goal

pub returns : goal.returns
returns c = λ g n what incoming dropped s e. step_of-tick g n what incoming dropped s e
