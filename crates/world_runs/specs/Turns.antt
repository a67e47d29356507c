-- Turns: which events are enabled, and which of them is done. The world's events stand in the order of turns.
use Rattle.std.specs.Prelude.{ℕ, ◌%◌, Bool, false, Option, Some, None, List, [], ◌∷◌, ◌++◌, map, length, filter, flat_map, slice_get}
use Rattle.uid_names.specs.Steps.{◌>>=◌}
use Rattle.dom_history.specs.declared.event.What.{What}
use Rattle.dom_history.specs.declared.event.What.TheVariants.{Begin, Go, Take, Ready, Mark}
use Rattle.dom_history.specs.declared.plan.FateRow.{FateRow}
use Rattle.dom_history.specs.Objects.{is_node}
use Rattle.fault_handler.specs.Desks.{procs}
use Rattle.node_runs.specs.Setups.{Setup, Given, given}
use Rattle.node_runs.specs.NodeStates.{NodeState}
use Rattle.node_runs.specs.Incomings.{Incoming, enabled}
use Rattle.node_runs.specs.Outcomes.{Stepped}
use Rattle.node_runs.specs.Doings.{node_numbers}
use Rattle.node_runs.specs.Steps.{named_step}
use Rattle.node_runs.specs.Runs.{World, first_world, incoming_of, world_with}
use Rattle.world_runs.specs.Waiting.{Entry, waiting}
use Rattle.world_runs.specs.Gone.{notices_at}

-- an event of a node
pub record Act : Type 0 where
  pub node : ℕ
  pub what : What

abbrev pub starts_of : ℕ → List What
starts_of p = Begin p ∷ Go p ∷ []

-- of a link only the oldest entry may be taken
abbrev pub oldest : ℕ → List Entry → List What
oldest from [] = []
oldest from (Entry.Copy index ∷ more) = Take from index ∷ []
oldest from (Entry.Mark phase ∷ more) = Mark from phase ∷ []

abbrev pub takes_at : List FateRow → World → ℕ → List What
takes_at plan w n = flat_map (λ from. oldest from (waiting plan from n w.done)) node_numbers

-- the events that may come to a node, in order: its processes', the notices, what waits on its links, its own mark
abbrev pub coming_to : List FateRow → World → ℕ → List What
coming_to plan w n = flat_map starts_of procs ++ (notices_at plan w n ++ (takes_at plan w n ++ Ready (w.nodes n).phase ∷ []))

abbrev pub is_enabled_by : Given → NodeState → What → Option Incoming → Bool
is_enabled_by g n what None = false
is_enabled_by g n what (Some incoming) = enabled g n what incoming

abbrev pub is_enabled : Setup → World → ℕ → What → Bool
is_enabled s w n what = is_enabled_by (given s n) (w.nodes n) what (incoming_of w n what)

abbrev pub enabled_at : Setup → List FateRow → World → ℕ → List Act
enabled_at s plan w n = map (λ what. record { node = n; what = what }) (filter (is_enabled s w n) (coming_to plan w n))

-- the enabled events that the plan's deliveries allow, nodes by number
abbrev pub enabled_events : Setup → List FateRow → World → List Act
enabled_events s plan w = flat_map (enabled_at s plan w) (filter (is_node s.opening) node_numbers)

abbrev pub happened : World → Act → Option Stepped → Option World
happened w a None = None
happened w a (Some step) = Some (world_with w (record { tick = step.node.tick; node = a.node }) a.what step)

-- the event is done, with the page dropped that the cache names
abbrev pub does_with : Setup → World → Act → Incoming → Option World
does_with s w a incoming = happened w a (named_step (given s a.node) (w.nodes a.node) a.what incoming)

abbrev pub does : Setup → World → Act → Option World
does s w a = incoming_of w a.node a.what >>= does_with s w a

-- the event at this place, counted on from the first one behind the last
abbrev pub chosen : List Act → ℕ → Option Act
chosen acts choice = slice_get acts (choice % length acts)

-- a turn: the chosen event is done; None where no event is enabled
abbrev pub turn : Setup → List FateRow → World → ℕ → Option World
turn s plan w choice = chosen (enabled_events s plan w) choice >>= does s w

-- the world after turns, the last choice first
abbrev pub after_turns : Setup → List FateRow → List ℕ → Option World
after_turns s plan [] = Some (first_world s)
after_turns s plan (choice ∷ older) = after_turns s plan older >>= λ w. turn s plan w choice
