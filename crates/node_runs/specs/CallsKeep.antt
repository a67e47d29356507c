-- What the calls of a run keep: each request on a link is of a call of its process, and a call asks one thing of one home.
use Rattle.std.specs.Prelude.{◌≡◌, ℕ, true, Option, Some, None, List, length}
use Rattle.uid_names.specs.declared.limits.TheConstants.{NODE_PROCESSES}
use Rattle.ring_messages.specs.Bodies.{Ask, ask_of}
use Rattle.ring_messages.specs.Frames.{Message}
use Rattle.fault_handler.specs.Invariant.{IsProc}
use Rattle.node_runs.specs.NodeStates.{Asked, Await, OpenOp, proc_of}
use Rattle.node_runs.specs.Setups.{Setup, given}
use Rattle.node_runs.specs.Incomings.{has_program}
use Rattle.node_runs.specs.Runs.{World, numbered}
pub use Rattle.uid_names.specs.Each.{EachOf}

-- the processes that have a program are 1 to 4
abbrev pub HasProcs : Setup → Type 0
HasProcs s = (n p : ℕ) → has_program (given s n) p ≡ true → IsProc p

abbrev pub AsksThis : Option Asked → ℕ → Ask → Type 0
AsksThis None home ask = ⊥
AsksThis (Some c) home ask = (c.home ≡ home) × (c.ask ≡ ask)

-- the call of this number asks this of that home
abbrev pub IsCallAt : List Asked → ℕ → ℕ → Ask → Type 0
IsCallAt calls number home ask = AsksThis (numbered number calls) home ask

-- a frame on a link is of its nodes and of a process, and a request is of a call of that process
pub record IsOnLink (calls : ℕ → ℕ → List Asked) (from to : ℕ) (m : Message) : Type 0 where
  pub sender : m.from ≡ from
  pub receiver : m.to ≡ to
  pub proc : IsProc m.proc
  pub call : (ask : Ask) → ask_of m.body ≡ Some ask → IsCallAt (calls from m.proc) m.number to ask

abbrev pub IsAwaited : List Asked → Await → Type 0
IsAwaited calls (Await.Answer c) = IsCallAt calls c.waiting.number c.home c.ask
IsAwaited calls (Await.Page u k) = Unit {0}

-- the open call of a process is one that it made
abbrev pub IsOpenAt : List Asked → Option OpenOp → Type 0
IsOpenAt calls None = Unit {0}
IsOpenAt calls (Some o) = IsAwaited calls o.awaits

pub record AreCalls (w : World) : Type 0 where
  pub last : (n p : ℕ) → IsProc p → (proc_of (w.nodes n) p).last ≡ length (w.calls n p)
  pub opened : (n p : ℕ) → IsProc p → IsOpenAt (w.calls n p) (proc_of (w.nodes n) p).doing
  pub four : (n : ℕ) → length (w.nodes n).procs ≡ NODE_PROCESSES
  pub frames : (from to : ℕ) → EachOf (IsOnLink w.calls from to) (w.frames from to)
