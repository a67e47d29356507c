-- What an event of the code receives and emits.
use Rattle.std.specs.Prelude.{ℕ, Option, Some, None}
use Rattle.dom_history.specs.declared.event.What.{What}
use Rattle.dom_history.specs.declared.event.What.TheVariants as events
use Rattle.dom_history.specs.declared.event.Sent.{Sent}
use Rattle.ring_messages.specs.Frames.{Message}
use Rattle.node_runs.specs.Incomings.{Incoming}
use Rattle.node_runs.specs.Outcomes.{Stepped}
use Rattle.node_core.specs.declared.setup.Incoming as code
use Rattle.node_core.specs.declared.setup.Incoming.TheVariants as received
use Rattle.node_core.specs.declared.setup.Emitted.{Emitted}

abbrev pub seen : code.Incoming → Incoming
seen received.Nothing = Incoming.Nothing
seen (received.Frame m) = Incoming.Frame m
seen (received.Gone number tick) = Incoming.Gone number tick
seen (received.Mark tick) = Incoming.Mark tick

-- a frame, with its index on its link
abbrev pub indexed : Option Message → Option Sent → Option (ℕ × Message)
indexed (Some m) (Some sent) = Some (sent.index, m)
indexed _ _ = None

abbrev pub mark_in : What → Option ℕ
mark_in (events.Ready phase) = Some phase
mark_in _ = None

-- the frame that an event sends
abbrev pub frame_of : Stepped → Option (ℕ × Message)
frame_of s = indexed s.frame s.effects.sent

-- what an event emits: the frame that it sends, or the mark of its phase
abbrev pub emitted_by : What → Stepped → Emitted
emitted_by what s = record { frame = frame_of s; mark = mark_in what }
