-- Acts, and the last calls of their operations.
use Rattle.std.specs.Prelude.{◌≡◌, ℕ, ◌⊎◌, Option, Some, None}
use Rattle.uid_names.specs.Names.{ProcName}
use Rattle.uid_names.specs.declared.ids.Place.{Place}
use Rattle.dom_history.specs.Histories.{Item, Answered, Acted, SomeOf}
use Rattle.ring_messages.specs.Bodies.{Ask}
use Rattle.fault_handler.specs.Invariant.{IsProc}
use Rattle.node_runs.specs.Setups.{Setup}
use Rattle.node_runs.specs.NodeStates.{OpenOp, proc_of}
use Rattle.node_runs.specs.Notes.{Told}
use Rattle.node_runs.specs.Runs.{World}
use Rattle.node_runs.specs.RunHistories.{doing_of, all_told, history_in}
use Rattle.node_runs.specs.CallsKeep.{IsCallAt, EachOf}
use Rattle.run_laws.specs.Progress.{IsSettling, IsPart}
use Rattle.run_laws.specs.DecidedReplies.{proc_at}
use Rattle.run_laws.specs.LastCalls.{HasNumber}
use Rattle.run_laws.specs.SingleActs.{IsActOf}

-- an operation that began there and whose last call has this number ended
abbrev pub IsToldAt : ProcName → ℕ → Place → Told → Type 0
IsToldAt p number begun t = (t.proc ≡ p) × (t.number ≡ number) × (t.begun ≡ begun)

-- or is open
abbrev pub IsOpenAt : ℕ → Place → Option OpenOp → Type 0
IsOpenAt number begun None = ⊥
IsOpenAt number begun (Some o) = (o.began.begun ≡ begun) × HasNumber number o.awaits

abbrev pub IsLastOf : World → ProcName → ℕ → Place → Type 0
IsLastOf w p number begun = SomeOf (IsToldAt p number begun) (all_told w.trace) ⊎ IsOpenAt number begun (doing_of w p)

-- the call of this number settles its operation
pub record IsSettlingCall (w : World) (p : ProcName) (number : ℕ) : Type 0 where
  pub home : ℕ
  pub ask : Ask
  pub call : IsCallAt (w.calls p.node p.number) number home ask
  pub settling : IsSettling ask

-- an act is of an operation whose last call settles it
abbrev pub IsActOfLast : World → Item → Type 0
IsActOfLast w (Answered e) = Unit {0}
IsActOfLast w (Acted a) = (k : ℕ) × IsLastOf w a.deed.proc k a.begun × IsSettlingCall w a.deed.proc k

-- no act of the operation that the process began there stands in the history
abbrev pub HasNoAct : Setup → World → ProcName → Place → Type 0
HasNoAct s w p begun = EachOf (λ i. IsActOf p begun i → ⊥) (history_in s w).items

-- an open operation that awaits what doesn't settle it has no act
abbrev pub HaveOpenNoAct : Setup → World → Type 0
HaveOpenNoAct s w = (n p : ℕ) → IsProc p → (o : OpenOp) → (proc_of (w.nodes n) p).doing ≡ Some o → IsPart o.awaits → HasNoAct s w (proc_at n p) o.began.begun

-- nor has one that ended while its last call was such a one
abbrev pub HasToldNoAct : Setup → World → Told → Type 0
HasToldNoAct s w t = (home : ℕ) (ask : Ask) → IsCallAt (w.calls t.proc.node t.proc.number) t.number home ask → (IsSettling ask → ⊥) → HasNoAct s w t.proc t.begun
