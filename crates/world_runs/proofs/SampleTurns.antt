-- The sample turns, by computing.
use Rattle.std.proofs.Common.{◌≡◌, [], ◌∷◌, Some, refl}
use Rattle.node_runs.specs.FirstRun as one
use Rattle.node_runs.specs.SecondRun as two
use Rattle.world_runs.specs.SampleTurns.{fifth_events, first_choices, second_choices, events_by, events_in_turn, enabled_after, swapped}
use Rattle.world_runs.specs.Draws.{draws}

pub first_events : events_by one.setup [] first_choices ≡ Some one.events
first_events = refl

pub first_end : enabled_after one.setup [] first_choices ≡ Some []
first_end = refl

pub second_events : events_by two.setup two.plan second_choices ≡ Some two.events
second_events = refl

pub second_turns : events_in_turn two.setup two.plan second_choices ≡ Some (swapped two.events)
second_turns = refl

pub second_end : enabled_after two.setup two.plan second_choices ≡ Some []
second_end = refl

pub fifth_turns : events_by two.setup two.plan (draws 5 3) ≡ Some fifth_events
fifth_turns = refl

pub first_draws : draws 0 3 ≡ 1299921937 ∷ 218396424 ∷ 167951807 ∷ []
first_draws = refl
