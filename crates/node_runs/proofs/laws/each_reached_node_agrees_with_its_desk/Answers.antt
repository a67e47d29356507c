use Rattle.node_runs.proofs.Reaching.{step_of-keeps, Reached-keeps}
use Rattle.node_runs.proofs.laws.each_reached_node_agrees_with_its_desk.Goals as goal

pub returns : goal.returns
returns c = record {
  step = λ g n what incoming dropped s given_is is frame e. (step_of-keeps g n what incoming dropped s given_is is frame e).node;
  sends = λ g n what incoming dropped s given_is is frame e. (step_of-keeps g n what incoming dropped s given_is is frame e).frame;
  effects = λ g n what incoming dropped s given_is is frame e. (step_of-keeps g n what incoming dropped s given_is is frame e).effects;
  reached = λ g given_is n reached. Reached-keeps g given_is n reached;
}
