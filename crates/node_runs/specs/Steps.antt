-- One event of a node that drops these pages, where it is enabled and may drop them.
use Rattle.std.specs.Prelude.{◌≡◌, ℕ, Bool, true, false, Option, Some, None, List}
use Rattle.std.specs.Option.{option_map}
use Rattle.uid_names.specs.Names.{ObjectName}
use Rattle.uid_names.specs.Steps.{◌>>=◌}
use Rattle.dom_history.specs.declared.event.What.{What}
use Rattle.node_runs.specs.Setups.{Given}
use Rattle.node_runs.specs.NodeStates.{NodeState}
use Rattle.node_runs.specs.Incomings.{Incoming, enabled}
use Rattle.node_runs.specs.Outcomes.{Stepped, moved}
use Rattle.node_runs.specs.Doings.{Doing, event_of, ticked}
use Rattle.node_runs.specs.Rooms.{same_pages, moved_by, moved_as_named}

abbrev pub stepped_if : Bool → Stepped → Option Stepped
stepped_if true s = Some s
stepped_if false s = None

-- an event that drops these pages; None where it may not
abbrev pub stepped_by : Given → NodeState → List (ObjectName × ℕ) → Doing → Option Stepped
stepped_by g n dropped (Doing.Does s) = stepped_if (same_pages dropped s.effects.dropped) s
stepped_by g n dropped (Doing.Moves p o stage accessed) = option_map (moved g n p o stage) (moved_by p dropped accessed)

-- an event at which room is made as the cache names it
abbrev pub stepped_as_named : Given → NodeState → Doing → Option Stepped
stepped_as_named g n (Doing.Does s) = Some s
stepped_as_named g n (Doing.Moves p o stage accessed) = option_map (moved g n p o stage) (moved_as_named p accessed)

abbrev pub step_if : Bool → Given → NodeState → What → Incoming → List (ObjectName × ℕ) → Option Stepped
step_if false g n what incoming dropped = None
step_if true g n what incoming dropped = event_of g (ticked n incoming) what incoming >>= stepped_by g (ticked n incoming) dropped

-- one event that drops these pages, where it is enabled and may drop them
abbrev pub step_of : Given → NodeState → What → Incoming → List (ObjectName × ℕ) → Option Stepped
step_of g n what incoming dropped = step_if (enabled g n what incoming) g n what incoming dropped

-- how an enabled event happens where room is made as the cache names it
abbrev pub named_step : Given → NodeState → What → Incoming → Option Stepped
named_step g n what incoming = event_of g (ticked n incoming) what incoming >>= stepped_as_named g (ticked n incoming)

-- the pages that an event drops
abbrev pub Dropped : Type 0
Dropped = List (ObjectName × ℕ)

-- the event happens with these pages dropped, and leaves this
abbrev pub StepsTo : Given → NodeState → What → Incoming → Dropped → Stepped → Type 0
StepsTo g n what incoming dropped s = step_of g n what incoming dropped ≡ Some s

-- the event happens, where room is made as the cache names it, with the pages that are dropped then
abbrev pub Happens : Given → NodeState → What → Incoming → Type 0
Happens g n what incoming = (s : Stepped) × (named_step g n what incoming ≡ Some s) × StepsTo g n what incoming s.effects.dropped s
