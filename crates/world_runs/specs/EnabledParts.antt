-- The parts of a node's enabled events, beside the open notices.
use Rattle.std.specs.Prelude.{ℕ, List, [], ◌∷◌, filter, flat_map}
use Rattle.dom_history.specs.declared.event.What.{What}
use Rattle.dom_history.specs.declared.event.What.TheVariants.{Ready}
use Rattle.dom_history.specs.declared.plan.FateRow.{FateRow}
use Rattle.fault_handler.specs.Desks.{procs}
use Rattle.node_runs.specs.Setups.{Setup}
use Rattle.node_runs.specs.Runs.{World}
use Rattle.world_runs.specs.Turns.{starts_of, takes_at, coming_to, is_enabled}

-- all that is enabled at a node
abbrev pub all_enabled : Setup → List FateRow → World → ℕ → List What
all_enabled s plan w n = filter (is_enabled s w n) (coming_to plan w n)

-- what its processes may do
abbrev pub enabled_starts : Setup → World → ℕ → List What
enabled_starts s w n = filter (is_enabled s w n) (flat_map starts_of procs)

-- what it may take of its links
abbrev pub enabled_takes : Setup → List FateRow → World → ℕ → List What
enabled_takes s plan w n = filter (is_enabled s w n) (takes_at plan w n)

-- its own mark
abbrev pub enabled_mark : Setup → World → ℕ → List What
enabled_mark s w n = filter (is_enabled s w n) (Ready (w.nodes n).phase ∷ [])
