-- What an event receives, and when it is enabled.
use Rattle.std.specs.Prelude.{ℕ, ◌==◌, Bool, false, not, ◌&&◌, Option, Some, None, is_none}
use Rattle.std.specs.List.{list_any, list_all}
use Rattle.dom_history.specs.declared.event.What.{What}
use Rattle.dom_history.specs.declared.event.What.TheVariants as events
use Rattle.ring_messages.specs.Frames.{Message}
use Rattle.fault_handler.specs.Desks.{DeskState, is_in_transit_there}
use Rattle.node_runs.specs.Setups.{Given}
use Rattle.node_runs.specs.NodeStates.{Await, OpenOp, NodeState, proc_of, is_at_end, is_marked, is_ended}

-- a frame that is taken; the call number and the tick of one that was lost or is late; the tick of a mark
pub data Incoming : Type 0 where
  Nothing : Incoming
  Frame : (frame : Message) → Incoming
  Gone : (number : ℕ) (tick : ℕ) → Incoming
  Mark : (tick : ℕ) → Incoming

abbrev pub tick_of : Incoming → ℕ
tick_of Incoming.Nothing = 0
tick_of (Incoming.Frame m) = m.tick
tick_of (Incoming.Gone number tick) = tick
tick_of (Incoming.Mark tick) = tick

-- the process has a program
abbrev pub has_program : Given → ℕ → Bool
has_program g p = list_any (λ q. q == p) g.programs

-- no operation of the process is open, and it is not at the end of the node's phase
abbrev pub may_begin : Given → NodeState → ℕ → Bool
may_begin g n p = has_program g p && (is_none (proc_of n p).doing && not (is_at_end n p))

-- the operation waits for a page that is no longer on its way, either way
abbrev pub has_come : DeskState → Await → Bool
has_come d (Await.Answer c) = false
has_come d (Await.Page u k) = not (is_in_transit_there d.moving u k)

abbrev pub may_go : DeskState → Option OpenOp → Bool
may_go d None = false
may_go d (Some o) = has_come d o.awaits

-- the call of this number is open
abbrev pub is_call : ℕ → Await → Bool
is_call number (Await.Answer c) = number == c.waiting.number
is_call number (Await.Page u k) = false

abbrev pub may_notice : ℕ → Option OpenOp → Bool
may_notice number None = false
may_notice number (Some o) = is_call number o.awaits

abbrev pub may_be_ready : Given → NodeState → ℕ → Bool
may_be_ready g n phase = (phase == n.phase) && (not n.ready && list_all (is_at_end n) g.programs)

-- the event may happen at a node that has not ended; one that doesn't receive what it needs may not, nor a frame of another
-- version
abbrev pub may_happen : Given → NodeState → What → Incoming → Bool
may_happen g n (events.Begin p) Incoming.Nothing = may_begin g n p
may_happen g n (events.Go p) Incoming.Nothing = has_program g p && may_go n.desk (proc_of n p).doing
may_happen g n (events.Take from index) (Incoming.Frame m) = ((m.from == from) && (m.to == g.number)) && (m.version == g.wire)
may_happen g n (events.Notice p from to index) (Incoming.Gone number tick) = has_program g p && may_notice number (proc_of n p).doing
may_happen g n (events.Ready phase) Incoming.Nothing = may_be_ready g n phase
may_happen g n (events.Mark from phase) (Incoming.Mark tick) = not (from == g.number) && not (is_marked n from phase)
may_happen g n what incoming = false

-- whether the event is enabled, as far as the node and what it receives tell
abbrev pub enabled : Given → NodeState → What → Incoming → Bool
enabled g n what incoming = not (is_ended g n) && may_happen g n what incoming
