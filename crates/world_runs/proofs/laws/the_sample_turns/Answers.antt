use Rattle.world_runs.proofs.SampleTurns.{first_draws, fifth_turns, first_events, first_end, second_events, second_turns, second_end}
use Rattle.world_runs.proofs.laws.the_sample_turns.Goals as goal

pub returns : goal.returns
returns c = record {
  draws = first_draws;
  seed = fifth_turns;
  first = first_events;
  first_end = first_end;
  second = second_events;
  second_in_turn = second_turns;
  second_end = second_end;
}
