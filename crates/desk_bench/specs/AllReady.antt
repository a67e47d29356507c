-- What is kept of all four processes of a node.
use Rattle.std.specs.Prelude.{ℕ}
use Rattle.fault_handler.specs.Desks.{DeskState}
use Rattle.fault_handler.specs.Invariant.{IsProc}
use Rattle.fault_handler.specs.Ready.{IsReady}

-- each may begin or go on, or its open call stands
abbrev pub AllReady : DeskState → Type 0
AllReady d = (p : ℕ) → IsProc p → IsReady d p
