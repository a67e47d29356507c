-- How marks keep the phases of a run apart.
use Rattle.std.specs.Prelude.{◌≡◌, ℕ, ◌+◌, ◌≤◌, ◌<◌, true, Option, Some, None, List}
use Rattle.uid_names.specs.Names.{ProcName}
use Rattle.uid_names.specs.Openings.{Start}
use Rattle.uid_names.specs.declared.ids.Place.{Place}
use Rattle.dom_history.specs.Objects.{is_node}
use Rattle.dom_history.specs.Histories.{SomeOf}
use Rattle.fault_handler.specs.Invariant.{IsProc}
use Rattle.node_runs.specs.Setups.{Setup, given}
use Rattle.node_runs.specs.NodeStates.{OpenOp, ProcState, NodeState, proc_of}
use Rattle.node_runs.specs.Incomings.{has_program}
use Rattle.node_runs.specs.Notes.{Note}
use Rattle.node_runs.specs.Runs.{SentMark, Noted, World}
use Rattle.node_runs.specs.CallsKeep.{EachOf}

-- the node's mark of this phase, sent below the tick
abbrev pub IsMarkBelow : ℕ → ℕ → ℕ → SentMark → Type 0
IsMarkBelow tick node phase m = (m.node ≡ node) × (m.phase ≡ phase) × (m.tick < tick)

-- each node sent its mark of each phase before this one below the tick
abbrev pub AreMarkedBelow : Start → List SentMark → ℕ → ℕ → Type 0
AreMarkedBelow opening marks tick phase = (node k : ℕ) → is_node opening node ≡ true → 1 ≤ k → k < phase → SomeOf (IsMarkBelow tick node k) marks

-- the node's marks of this phase were sent above the tick
abbrev pub AreMarksAbove : List SentMark → ℕ → ℕ → ℕ → Type 0
AreMarksAbove marks tick node phase = EachOf (λ (m : SentMark). m.node ≡ node → m.phase ≡ phase → tick < m.tick) marks

-- an operation of the process in a phase, that began at a tick and ended at a place of its node: above all marks of the
-- phases before, and below its node's mark of its own
pub record IsInPhase (opening : Start) (marks : List SentMark) (p : ProcName) (phase first : ℕ) (last : Place) : Type 0 where
  pub own : last.node ≡ p.node
  pub node : is_node opening p.node ≡ true
  pub least : 1 ≤ phase
  pub behind : AreMarkedBelow opening marks first phase
  pub before : AreMarksAbove marks last.tick p.node phase

-- what ended
abbrev pub IsEndInPhase : Start → List SentMark → Place → Note → Type 0
IsEndInPhase opening marks x (Note.Did p phase op reply) = IsInPhase opening marks p phase x.tick x
IsEndInPhase opening marks x (Note.Ended t) = IsInPhase opening marks t.proc t.phase t.begun.tick x
IsEndInPhase opening marks x note = Unit {0}

-- an open operation is of a program, in one of the phases that there are, and began above all marks of those before
abbrev pub IsOpenInPhase : Setup → List SentMark → ℕ → ℕ → ℕ → Option OpenOp → Type 0
IsOpenInPhase s marks n p phase None = Unit {0}
IsOpenInPhase s marks n p phase (Some o) = (has_program (given s n) p ≡ true) × (phase ≤ s.phases) × AreMarkedBelow s.opening marks o.began.begun.tick phase

pub record IsProcInPhase (s : Setup) (marks : List SentMark) (n p : ℕ) (q : ProcState) : Type 0 where
  pub least : 1 ≤ q.phase
  pub doing : IsOpenInPhase s marks n p q.phase q.doing

-- what a node knows of marks was sent up to its tick, and each program of it has come past each phase of which it sent the
-- mark
pub record IsNodeInPhase (s : Setup) (marks : List SentMark) (n : ℕ) (x : NodeState) : Type 0 where
  pub behind : AreMarkedBelow s.opening marks (x.tick + 1) x.phase
  pub taken : EachOf (λ (m : ℕ × ℕ). SomeOf (IsMarkBelow (x.tick + 1) m.0 m.1) marks) x.marks
  pub ready : x.ready ≡ true → SomeOf (IsMarkBelow (x.tick + 1) n x.phase) marks
  pub sent : EachOf (λ (m : SentMark). m.node ≡ n → (p : ℕ) → has_program (given s n) p ≡ true → m.phase < (proc_of x p).phase) marks
  pub procs : (p : ℕ) → IsProc p → IsProcInPhase s marks n p (proc_of x p)

pub record AreInPhase (s : Setup) (w : World) : Type 0 where
  pub nodes : (n : ℕ) → is_node s.opening n ≡ true → IsNodeInPhase s w.marks n (w.nodes n)
  pub notes : EachOf (λ (j : Noted). IsEndInPhase s.opening w.marks j.place j.note) w.trace
