-- The call that settles an operation is its last one.
use Rattle.std.specs.Prelude.{◌≡◌, ℕ, ◌⊎◌, Option, Some, None, List}
use Rattle.uid_names.specs.Names.{ProcName}
use Rattle.dom_history.specs.Histories.{SomeOf}
use Rattle.ring_messages.specs.Bodies.{Ask}
use Rattle.fault_handler.specs.Invariant.{IsProc}
use Rattle.node_runs.specs.NodeStates.{Await, OpenOp, ProcState, proc_of}
use Rattle.node_runs.specs.Notes.{Told}
use Rattle.node_runs.specs.Runs.{World}
use Rattle.node_runs.specs.RunHistories.{all_told}
use Rattle.node_runs.specs.CallsKeep.{IsCallAt}
use Rattle.run_laws.specs.Progress.{IsSettling}
use Rattle.run_laws.specs.DecidedReplies.{proc_at}

-- the open call is the one of this number
abbrev pub HasNumber : ℕ → Await → Type 0
HasNumber number (Await.Answer c) = c.waiting.number ≡ number
HasNumber number (Await.Page u k) = ⊥

abbrev pub IsOpenNumber : ℕ → Option OpenOp → Type 0
IsOpenNumber number None = ⊥
IsOpenNumber number (Some o) = HasNumber number o.awaits

-- it is open, or was the last call of an operation of which the process was told
abbrev pub IsOpenOrTold : ProcName → ℕ → ProcState → List Told → Type 0
IsOpenOrTold p number q so_far = IsOpenNumber number q.doing ⊎ SomeOf (λ (t : Told). (t.proc ≡ p) × (t.number ≡ number)) so_far

abbrev pub AreLastCalls : World → Type 0
AreLastCalls w = (n p : ℕ) → IsProc p → (number home : ℕ) (ask : Ask) → IsCallAt (w.calls n p) number home ask → IsSettling ask → IsOpenOrTold (proc_at n p) number (proc_of (w.nodes n) p) (all_told w.trace)
