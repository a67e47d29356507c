-- What the history says of a process is what its program heard.
use Rattle.std.specs.Prelude.{◌≡◌, ℕ, ◌≤◌, ◌<◌, ◌⊎◌, true, Option, Some, None, List}
use Rattle.uid_names.specs.Names.{ProcName}
use Rattle.dom_history.specs.declared.op.Want.{Want}
use Rattle.dom_history.specs.declared.op.Want.TheVariants.{Done}
use Rattle.dom_history.specs.Follows.{Heard, Reaches, entries_of}
use Rattle.fault_handler.specs.Invariant.{IsProc}
use Rattle.node_runs.specs.Setups.{Setup, given}
use Rattle.node_runs.specs.NodeStates.{Await, BegunOp, OpenOp, ProcState, proc_of}
use Rattle.node_runs.specs.Notes.{Told, Note}
use Rattle.node_runs.specs.Runs.{Noted, World}
use Rattle.node_runs.specs.RunHistories.{is_fault, all_told}
use Rattle.node_runs.specs.CallsKeep.{EachOf}
use Rattle.run_laws.specs.NotedEntries.{noted_entries}
use Rattle.run_laws.specs.DecidedReplies.{proc_at, WasDecided}
use Rattle.run_laws.specs.Since.{Since}

-- the open call is the last one, and of none before was the process told
abbrev pub IsLastCall : ProcName → List Told → ℕ → Await → Type 0
IsLastCall p told last (Await.Answer c) = (c.waiting.number ≡ last) × EachOf (λ (t : Told). t.proc ≡ p → t.number < c.waiting.number) told
IsLastCall p told last (Await.Page u k) = Unit {0}

-- an open operation began behind all that its process was told of
pub record IsOpenSince (p : ProcName) (told : List Told) (notes : List Noted) (tick last : ℕ) (o : BegunOp) (a : Await) : Type 0 where
  pub node : o.begun.node ≡ p.node
  pub begun : o.begun.tick ≤ tick
  pub behind : EachOf (λ (t : Told). t.proc ≡ p → t.begun.tick < o.begun.tick) told
  pub call : IsLastCall p told last a
  pub since : Since p o a told notes

abbrev pub IsDoingSince : ProcName → List Told → List Noted → ℕ → ℕ → Option OpenOp → Type 0
IsDoingSince p told notes tick last None = Unit {0}
IsDoingSince p told notes tick last (Some o) = IsOpenSince p told notes tick last o.began o.awaits

-- a process of a node with this tick: its entries have what its program asked and heard, each in the phase of the program
pub record IsHeardAt (ask : Heard → Want) (p : ProcName) (so_far : List Told) (notes : List Noted) (tick : ℕ) (q : ProcState) : Type 0 where
  pub phase : ℕ
  pub reaches : Reaches ask (entries_of p (noted_entries so_far notes)) q.heard phase
  -- until it is done its phase is that of its program
  pub in_phase : (q.phase ≡ phase) ⊎ (ask q.heard ≡ Done)
  pub told : EachOf (λ (t : Told). t.proc ≡ p → (t.number ≤ q.last) × (t.begun.tick ≤ tick)) so_far
  pub doing : IsDoingSince p so_far notes tick q.last q.doing

-- what ended by an answer was decided
abbrev pub IsToldByDecision : List Noted → Told → Type 0
IsToldByDecision notes t = (is_fault t.reply ≡ true) ⊎ WasDecided notes t.proc t.number

-- what ended was an operation of one of the four processes
abbrev pub IsOfProc : Note → Type 0
IsOfProc (Note.Did p phase op reply) = IsProc p.number
IsOfProc (Note.Ended t) = IsProc t.proc.number
IsOfProc note = Unit {0}

pub record AreHeard (s : Setup) (w : World) : Type 0 where
  pub places : EachOf (λ (j : Noted). j.place.tick ≤ (w.nodes j.place.node).tick) w.trace
  pub named : EachOf (λ (j : Noted). IsOfProc j.note) w.trace
  pub decided : EachOf (IsToldByDecision w.trace) (all_told w.trace)
  pub procs : (n p : ℕ) → IsProc p → IsHeardAt ((given s n).asks p) (proc_at n p) (all_told w.trace) w.trace (w.nodes n).tick (proc_of (w.nodes n) p)
