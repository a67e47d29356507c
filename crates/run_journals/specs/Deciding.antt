-- The event that comes of something at a node, as its state and what it receives decide it: where room is made, its cache names the page. So one
-- line of a journal is judged by its node alone, and a recent run needs no order of uses of its own.
use Rattle.std.specs.Prelude.{◌≡◌, ℕ, Bool, true, false, Option, Some, None}
use Rattle.std.specs.Option.{option_map}
use Rattle.uid_names.specs.Steps.{◌>>=◌}
use Rattle.dom_history.specs.declared.event.What.{What}
use Rattle.dom_history.specs.Events.{Happening}
use Rattle.dom_history.specs.Objects.{is_node}
use Rattle.node_runs.specs.Setups.{Setup, Given, given}
use Rattle.node_runs.specs.NodeStates.{NodeState}
use Rattle.node_runs.specs.Incomings.{Incoming, enabled}
use Rattle.node_runs.specs.Outcomes.{Stepped}
use Rattle.node_runs.specs.Steps.{named_step}
use Rattle.node_runs.specs.Runs.{World, incoming_of}

abbrev pub step_if : Bool → Option Stepped → Option Stepped
step_if true step = step
step_if false step = None

-- how an event happens that is enabled; None where it is not
abbrev pub decided_step : Given → NodeState → What → Incoming → Option Stepped
decided_step g n what incoming = step_if (enabled g n what incoming) (named_step g n what incoming)

-- what a journal has of it
abbrev pub line_of : ℕ → What → Stepped → Happening
line_of number what st = record { place = record { tick = st.node.tick; node = number }; what = what; effects = st.effects }

abbrev pub decided_by : Setup → World → ℕ → What → Incoming → Option Happening
decided_by s w n what incoming = option_map (line_of n what) (decided_step (given s n) (w.nodes n) what incoming)

abbrev pub decided_if : Bool → Setup → World → ℕ → What → Option Happening
decided_if true s w n what = incoming_of w n what >>= decided_by s w n what
decided_if false s w n what = None

-- the event that comes of this at a node of this world; None where it may not happen there
abbrev pub decided : Setup → World → ℕ → What → Option Happening
decided s w n what = decided_if (is_node s.opening n) s w n what

-- the event is what comes of what it is: its tick, the pages that it drops, the frame that it sends and the operation that it ends are those
abbrev pub IsDecided : Setup → World → Happening → Type 0
IsDecided s w e = decided s w e.place.node e.what ≡ Some e
