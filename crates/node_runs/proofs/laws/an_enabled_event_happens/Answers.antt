use Rattle.node_runs.proofs.Stepping.{step_of-is}
use Rattle.node_runs.proofs.MakingRoom.{same_pages-is}
use Rattle.node_runs.proofs.Happening.{enabled-happens}
use Rattle.node_runs.proofs.laws.an_enabled_event_happens.Goals as goal

pub returns : goal.returns
returns c = record {
  happens = λ g n what incoming given_is is frame may. enabled-happens g n what incoming given_is is frame may;
  only = λ g n what incoming dropped s e. (step_of-is g n what incoming dropped s e).enabled;
  drops = λ g n what incoming dropped s e. same_pages-is dropped s.effects.dropped (step_of-is g n what incoming dropped s e).drops;
}
