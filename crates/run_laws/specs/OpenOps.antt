-- What is said of all open operations.
use Rattle.std.specs.Prelude.{◌≡◌, ℕ, true, Some}
use Rattle.dom_history.specs.Objects.{is_node}
use Rattle.fault_handler.specs.Invariant.{IsProc}
use Rattle.node_runs.specs.Setups.{Setup}
use Rattle.node_runs.specs.NodeStates.{OpenOp, proc_of}
use Rattle.node_runs.specs.Runs.{World}

-- it holds of each operation that is open in a world, and of its node and process
abbrev pub AtEveryOpenOp : Setup → World → (ℕ → ℕ → OpenOp → Type 0) → Type 0
AtEveryOpenOp s w P = (n p : ℕ) → is_node s.opening n ≡ true → IsProc p → (o : OpenOp) → (proc_of (w.nodes n) p).doing ≡ Some o → P n p o
