use Rattle.world_runs.proofs.Merging.{turns-merge}
use Rattle.world_runs.proofs.Happening.{turn-none, none-turn}
use Rattle.world_runs.proofs.laws.a_turn_does_an_enabled_event.Goals as goal

pub returns : goal.returns
returns c = record {
  nothing = λ s plan setup cs w e timely choice none. turn-none s setup plan w ((turns-merge s setup plan cs w e).merged timely) timely choice none;
  only = none-turn;
}
