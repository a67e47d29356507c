-- Nodes that differ only in what their programs heard before, and in the order in which marks were taken: an event does
-- the same at each of them.
use Rattle.std.specs.Prelude.{◌≡◌, ℕ, true, Some, [], ◌++◌, length, map}
use Rattle.dom_history.specs.declared.event.What.{What}
use Rattle.dom_history.specs.declared.op.Want.TheVariants.{Do}
use Rattle.dom_history.specs.Follows.{Heard}
use Rattle.node_runs.specs.Setups.{Given}
use Rattle.node_runs.specs.NodeStates.{OpenOp, ProcState, NodeState, proc_of, is_marked}
use Rattle.node_runs.specs.Incomings.{Incoming, has_program, enabled}
use Rattle.node_runs.specs.Outcomes.{Stepped}
use Rattle.node_runs.specs.Steps.{named_step}

pub record AreAlikeProcs (q r : ProcState) : Type 0 where
  pub doing : q.doing ≡ r.doing
  pub last : q.last ≡ r.last
  pub phase : q.phase ≡ r.phase

-- they have as many processes, since one that is put past the end of a list changes nothing
pub record AreAlike (n m : NodeState) : Type 0 where
  pub side : n.side ≡ m.side
  pub desk : n.desk ≡ m.desk
  pub procs : (p : ℕ) → AreAlikeProcs (proc_of n p) (proc_of m p)
  pub many : length n.procs ≡ length m.procs
  pub emitted : n.emitted ≡ m.emitted
  pub tick : n.tick ≡ m.tick
  pub phase : n.phase ≡ m.phase
  pub ready : n.ready ≡ m.ready
  pub marks : (from phase : ℕ) → is_marked n from phase ≡ is_marked m from phase

-- what they are given, as far as an event asks for it: no object of the opening, and of the programs what they want now
pub record AreAlikeGiven (g h : Given) (n m : NodeState) : Type 0 where
  pub number : g.number ≡ h.number
  pub nodes : g.opening.nodes ≡ h.opening.nodes
  pub greatest : g.opening.greatest ≡ h.opening.greatest
  pub wire : g.wire ≡ h.wire
  pub phases : g.phases ≡ h.phases
  pub programs : (p : ℕ) → has_program g p ≡ has_program h p
  pub asks : (p : ℕ) → has_program g p ≡ true → g.asks p (proc_of n p).heard ≡ h.asks p (proc_of m p).heard

-- what this process is told by the event, the newest first: the same at both nodes
pub record HeardMore (p : ℕ) (before after other_before other_after : NodeState) : Type 0 where
  pub told : Heard
  pub here : (proc_of after p).heard ≡ told ++ (proc_of before p).heard
  pub there : (proc_of other_after p).heard ≡ told ++ (proc_of other_before p).heard

-- what the event leaves at both
pub record AreAlikeSteps (n m : NodeState) (s t : Stepped) : Type 0 where
  pub node : AreAlike s.node t.node
  pub heard : (p : ℕ) → HeardMore p n s.node m t.node
  pub frame : s.frame ≡ t.frame
  pub call : s.call ≡ t.call
  pub effects : s.effects ≡ t.effects
  pub note : s.note ≡ t.note

-- the enabled event leaves this at the one node, and at the other what is alike
abbrev pub DoesAlike : Given → Given → NodeState → NodeState → What → Incoming → Stepped → Type 0
DoesAlike g h n m what incoming s =
    enabled g n what incoming ≡ true → named_step g n what incoming ≡ Some s → (t : Stepped) × (named_step h m what incoming ≡ Some t) × AreAlikeSteps n m s t

-- a node as if its programs had heard nothing
abbrev pub forgetting : ProcState → ProcState
forgetting q = record q { heard = [] }

abbrev pub forgotten : NodeState → NodeState
forgotten n = record n { procs = map forgetting n.procs }

-- its programs heard nothing
abbrev pub HasHeardNothing : NodeState → Type 0
HasHeardNothing n = (p : ℕ) → (proc_of n p).heard ≡ []

-- what such a node is given in place of the other: its own number, nodes, version and frames, and programs that want the
-- operation that is open, whatever they heard
pub record IsGivenAnew (g h : Given) (n : NodeState) : Type 0 where
  pub number : h.number ≡ g.number
  pub nodes : h.opening.nodes ≡ g.opening.nodes
  pub wire : h.wire ≡ g.wire
  pub frames : h.frames ≡ g.frames
  pub asks : (p : ℕ) (o : OpenOp) (heard : Heard) → (proc_of n p).doing ≡ Some o → h.asks p heard ≡ Do o.began.op
