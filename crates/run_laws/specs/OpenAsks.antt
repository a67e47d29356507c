-- Calls that are open.
use Rattle.std.specs.Prelude.{◌≡◌, ℕ, true, Option, Some, None}
use Rattle.dom_history.specs.Objects.{is_node}
use Rattle.fault_handler.specs.Invariant.{IsProc}
use Rattle.node_runs.specs.Setups.{Setup}
use Rattle.node_runs.specs.NodeStates.{Await, OpenOp, proc_of}
use Rattle.node_runs.specs.Runs.{World}

-- the operation awaits the answer to a call
abbrev pub IsAnswerAwaited : Await → Type 0
IsAnswerAwaited (Await.Answer call) = Unit {0}
IsAnswerAwaited (Await.Page u k) = ⊥

abbrev pub HasCall : Option OpenOp → Type 0
HasCall None = ⊥
HasCall (Some o) = IsAnswerAwaited o.awaits

-- no process of the node has an open call
abbrev pub HasNoCallAt : World → ℕ → Type 0
HasNoCallAt w n = (p : ℕ) → IsProc p → HasCall (proc_of (w.nodes n) p).doing → ⊥

-- nor any of another node
abbrev pub HasNoCall : Setup → World → Type 0
HasNoCall s w = (n : ℕ) → is_node s.opening n ≡ true → HasNoCallAt w n
