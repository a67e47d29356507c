-- Turns that do the events of the sample runs, and the first turns of a seed.
use Rattle.std.specs.Prelude.{ℕ, List, [], ◌∷◌, Option, None, replicate}
use Rattle.std.specs.Option.{option_map}
use Rattle.uid_names.specs.declared.frame_kind.FrameKind.TheVariants as kinds
use Rattle.dom_history.specs.declared.event.What.TheVariants.{Begin, Ready, Mark}
use Rattle.dom_history.specs.declared.plan.FateRow.{FateRow}
use Rattle.dom_history.specs.Events.{Happening}
use Rattle.node_runs.specs.Setups.{Setup}
use Rattle.node_runs.specs.SecondRun as two
use Rattle.world_runs.specs.Turns.{Act, enabled_events, after_turns}
use Rattle.world_runs.specs.ByPlace.{by_place}

-- one event is enabled each time
abbrev pub first_choices : List ℕ
first_choices = replicate 19 0

-- node 1 goes first while it may; then node 2 is ready, node 1 ends its program and is ready, and each takes the other's mark,
-- node 2 before node 1. The last choice comes first
abbrev pub second_choices : List ℕ
second_choices = 0 ∷ 1 ∷ 1 ∷ 0 ∷ 1 ∷ replicate 8 0

-- the events that turns by these choices do, by place
abbrev pub events_by : Setup → List FateRow → List ℕ → Option (List Happening)
events_by s plan choices = option_map (λ w. by_place w.done) (after_turns s plan choices)

-- the same in the order of turns
abbrev pub events_in_turn : Setup → List FateRow → List ℕ → Option (List Happening)
events_in_turn s plan choices = option_map (λ w. w.done) (after_turns s plan choices)

-- what is enabled after them
abbrev pub enabled_after : Setup → List FateRow → List ℕ → Option (List Act)
enabled_after s plan choices = option_map (enabled_events s plan) (after_turns s plan choices)

-- what three turns of seed 5 do: they draw 1,724,882,992 of two events, 301,167,773 of two and 1,762,018,234 of two
abbrev pub fifth_events : List Happening
fifth_events =
    two.event 2 1 (Mark 2 1) None None
    ∷ two.event 1 2 (Ready 1) None None
    ∷ two.event 1 1 (Begin 1) (two.sends 2 1 kinds.Lock 1) None
    ∷ []

-- the last two events of a list change places
abbrev pub swapped : List Happening → List Happening
swapped (a ∷ b ∷ more) = b ∷ a ∷ more
swapped es = es
