use Rattle.node_runs.proofs.Counts.{first-counted, step_of-counted}
use Rattle.node_runs.proofs.laws.numbers_are_within_the_tick.Goals as goal

pub returns : goal.returns
returns c = record { step = λ g n what incoming dropped s is e. step_of-counted g n what incoming dropped s is e; first = λ s is n. first-counted s is n }
