-- Events at which an access needs room, and in which ways it is made.
use Rattle.std.specs.Prelude.{◌≡◌, ℕ, true, Some}
use Rattle.dom_history.specs.declared.event.What.{What}
use Rattle.fault_handler.specs.declared.tasks.Task.{Task}
use Rattle.fault_handler.specs.Desks.{DeskState}
use Rattle.fault_handler.specs.Victims.{Victim, MayMakeRoom}
use Rattle.fault_handler.specs.Accesses.{Accessed, room_made}
use Rattle.node_runs.specs.Setups.{Given}
use Rattle.node_runs.specs.NodeStates.{BegunOp, NodeState}
use Rattle.node_runs.specs.Incomings.{Incoming, enabled}
use Rattle.node_runs.specs.Outcomes.{Stepped, Stage, moved}
use Rattle.node_runs.specs.Doings.{Doing, event_of, ticked}
use Rattle.node_runs.specs.Steps.{Dropped, StepsTo}

-- the event is one of this operation, whose access needs room
abbrev pub NeedsRoom : Given → NodeState → What → Incoming → ℕ → BegunOp → Stage → DeskState → Task → Type 0
NeedsRoom g n what incoming p o stage d task = event_of g (ticked n incoming) what incoming ≡ Some (Doing.Moves p o stage (Accessed.NeedsRoom d task))

-- what the event leaves where this page makes room
abbrev pub with_room : Given → NodeState → Incoming → ℕ → BegunOp → Stage → DeskState → Task → Victim → Stepped
with_room g n incoming p o stage d task victim = moved g (ticked n incoming) p o stage (room_made d p task victim)

-- where its access needs room, the enabled event happens with each page that may make it
abbrev pub TakesEachVictim : Given → NodeState → What → Incoming → Type 0
TakesEachVictim g n what incoming =
    (p : ℕ) (o : BegunOp) (stage : Stage) (d : DeskState) (task : Task) (victim : Victim) → enabled g n what incoming ≡ true → NeedsRoom g n what incoming p o stage d task → MayMakeRoom d victim
    → StepsTo g n what incoming (room_made d p task victim).dropped (with_room g n incoming p o stage d task victim)

-- where its access needs room and the event leaves this, one of those pages made it
abbrev pub TookSomeVictim : Given → NodeState → What → Incoming → Dropped → Stepped → Type 0
TookSomeVictim g n what incoming dropped s =
    (p : ℕ) (o : BegunOp) (stage : Stage) (d : DeskState) (task : Task) → NeedsRoom g n what incoming p o stage d task → StepsTo g n what incoming dropped s
    → (victim : Victim) × MayMakeRoom d victim × (s ≡ with_room g n incoming p o stage d task victim)
