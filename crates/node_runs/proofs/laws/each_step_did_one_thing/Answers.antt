use Rattle.node_runs.proofs.Doing.{step_of-did}
use Rattle.node_runs.proofs.laws.each_step_did_one_thing.Goals as goal

pub returns : goal.returns
returns c = λ g n what incoming dropped s e. step_of-did g n what incoming dropped s e
