-- Frames of open calls that are on their way.
use Rattle.std.specs.Prelude.{◌≡◌, ◌⊎◌, ℕ, true, false, List}
use Rattle.uid_names.specs.Names.{ProcName}
use Rattle.dom_history.specs.declared.plan.FateRow.{FateRow}
use Rattle.dom_history.specs.Histories.{SomeOf}
use Rattle.dom_history.specs.Objects.{is_node}
use Rattle.fault_handler.specs.Invariant.{IsProc}
use Rattle.node_runs.specs.Setups.{Setup}
use Rattle.node_runs.specs.NodeStates.{Asked, BegunOp, proc_of}
use Rattle.node_runs.specs.Dones.{asking}
use Rattle.node_runs.specs.Runs.{World, numbered}
use Rattle.run_laws.specs.DecidedReplies.{proc_at}
use Rattle.world_runs.specs.Gone.{FrameName, gone_in, was_told}
use Rattle.world_runs.specs.Waiting.{Entry, waiting}
use Rattle.run_laws.specs.FramesOfCalls.{IsOfCall}

-- a copy of the frame waits on its link
abbrev pub IsWaiting : List FateRow → World → FrameName → Type 0
IsWaiting plan w f = SomeOf (λ (x : Entry). Entry.Copy f.2 ≡ x) (waiting plan f.0 f.1 w.done)

-- the frame was lost or is late, and its notice is still to come
abbrev pub IsUntold : List FateRow → World → FrameName → Type 0
IsUntold plan w f = SomeOf (λ (g : FrameName). f ≡ g) (gone_in plan w.done) × (was_told w.done f ≡ false)

-- a frame of this call of the process is on its way, its request or a reply to it, or a notice of one
pub record HasFrame (plan : List FateRow) (w : World) (p : ProcName) (number : ℕ) : Type 0 where
  pub frame : FrameName
  pub call : IsOfCall p number (numbered frame.2 (w.frames frame.0 frame.1))
  pub way : IsWaiting plan w frame ⊎ IsUntold plan w frame

-- each open call has one
abbrev pub HaveFrames : Setup → List FateRow → World → Type 0
HaveFrames s plan w =
    (n p : ℕ) → is_node s.opening n ≡ true → IsProc p → (o : BegunOp) (c : Asked) → (proc_of (w.nodes n) p).doing ≡ asking o c → HasFrame plan w (proc_at n p) c.waiting.number
