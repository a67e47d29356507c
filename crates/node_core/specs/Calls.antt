-- An operation that has a call.
use Rattle.std.specs.Prelude.{ℕ}
use Rattle.dom_history.specs.declared.op.Op.{Op}
use Rattle.ring_messages.specs.Bodies.{Ask}
use Rattle.fault_handler.specs.Desks.{DeskState}
use Rattle.node_runs.specs.Agreements.{IsCalling}

-- the operation asked something of a home, to which its desk agrees
abbrev pub IsInCall : DeskState → ℕ → Op → Type 0
IsInCall d p op = (ask : Ask) × IsCalling d p op ask
