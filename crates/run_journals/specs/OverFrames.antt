-- Frames whose call is over at the node that would take them: what they carry says nothing more there, so it need not be kept.
use Rattle.std.specs.Prelude.{nat_le, Bool, not, ◌&&◌, Option, Some, None}
use Rattle.call_once.specs.Calls.{last_of}
use Rattle.ring_messages.specs.Bodies.{Ask, ask_of}
use Rattle.ring_messages.specs.Frames.{Message, caller_of}
use Rattle.ring_messages.specs.declared.body.Body.{Body}
use Rattle.ring_messages.specs.declared.body.Body.TheVariants as bodies
use Rattle.node_runs.specs.NodeStates.{NodeState, proc_of}
use Rattle.node_runs.specs.Incomings.{may_notice}

-- a request whose home decided its call, or a later one of the process; an answer whose call was made and is open no more
abbrev pub is_over_as : NodeState → Message → Option Ask → Bool
is_over_as n m (Some ask) = nat_le m.number (last_of (caller_of m) n.side.served)
is_over_as n m None = nat_le m.number (proc_of n m.proc).last && not (may_notice m.number (proc_of n m.proc).doing)

abbrev pub is_over : NodeState → Message → Bool
is_over n m = is_over_as n m (ask_of m.body)

-- a request that asks for no object, and an answer that tells nothing
abbrev pub bare_body : Option Ask → Body
bare_body (Some ask) = bodies.List None
bare_body None = bodies.Done

-- the frame with nothing in it but its head, and whether it asks or answers
abbrev pub bare : Message → Message
bare m = record m { body = bare_body (ask_of m.body) }
