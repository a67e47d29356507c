-- The tick of a node after an event is that of the event.
use Rattle.std.proofs.Common.{◌≡◌, ℕ, ◌+◌, Bool, true, false, List, Some, refl}
use Rattle.std.specs.Prelude.{max}
use Rattle.uid_names.specs.Names.{ObjectName}
use Rattle.dom_history.specs.declared.event.What.{What}
use Rattle.fault_handler.specs.Outcomes.{Turn, Moved}
use Rattle.node_runs.specs.Setups.{Given}
use Rattle.node_runs.specs.NodeStates.{BegunOp, NodeState}
use Rattle.node_runs.specs.Incomings.{Incoming, tick_of}
use Rattle.node_runs.specs.Outcomes.{Stepped, Stage, turned, moved}
use Rattle.node_runs.specs.Doings.{begun_at, stage_of, in_next_phase, ticked}
use Rattle.node_runs.specs.Dones.{Did, paused, finished, began, resumed, served, passed_over, heard, ignored, resent, gave_up, got_ready, marked}
use Rattle.node_runs.specs.Steps.{step_of}
use Rattle.node_runs.proofs.Doing.{step_of-did}

pub turned-tick : (g : Given) (n : NodeState) (p : ℕ) (o : BegunOp) (stage : Stage) (turn : Turn) → (turned g n p o stage turn).node.tick ≡ n.tick
turned-tick g n p o stage (Turn.Ends reply) = refl
turned-tick g n p o stage (Turn.Asks home ask) = refl
turned-tick g n p o stage (Turn.Waits u k) = refl

moved-tick : (g : Given) (n : NodeState) (p : ℕ) (o : BegunOp) (stage : Stage) (m : Moved) → (moved g n p o stage m).node.tick ≡ n.tick
moved-tick g n p o stage m = turned-tick g (record n { desk = m.desk }) p o stage m.turn

in_next_phase-tick : (b : Bool) (n : NodeState) → (in_next_phase b n).tick ≡ n.tick
in_next_phase-tick true n = refl
in_next_phase-tick false n = refl

did-tick : (g : Given) (n : NodeState) (what : What) (incoming : Incoming) (s : Stepped) → Did g n what incoming s → s.node.tick ≡ n.tick
did-tick g n what incoming s (paused p has none is) = refl
did-tick g n what incoming s (finished p has none is) = refl
did-tick g n what incoming s (began p op to has none is may) = moved-tick g n p (begun_at g n op) Stage.Starts to
did-tick g n what incoming s (resumed p o u k accessed to has is come goes may) = moved-tick g n p o Stage.Resumes to
did-tick g n what incoming s (served from index m ask answer sender receiver asks is) = refl
did-tick g n what incoming s (passed_over from index m ask sender receiver asks is) = refl
did-tick g n what incoming s (heard from index m o c said to sender receiver asks is same fits may) = moved-tick g n m.proc o (stage_of m.number said) to
did-tick g n what incoming s (ignored from index m sender receiver asks) = refl
did-tick g n what incoming s (resent p from to index number tick o c has is same answer) = refl
did-tick g n what incoming s (gave_up p from to index number tick o c into has is same answer fails) = moved-tick g n p o (Stage.Settles c.waiting.number) into
did-tick g n what incoming s (got_ready phase may) = in_next_phase-tick _ _
did-tick g n what incoming s (marked from phase tick may) = in_next_phase-tick _ _

-- a step's tick is one more than the greater of its node's and that of what it receives
pub step_of-tick : (g : Given) (n : NodeState) (what : What) (incoming : Incoming) (dropped : List (ObjectName × ℕ)) (s : Stepped)
    → step_of g n what incoming dropped ≡ Some s → s.node.tick ≡ max n.tick (tick_of incoming) + 1
step_of-tick g n what incoming dropped s e = did-tick g (ticked n incoming) what incoming s (step_of-did g n what incoming dropped s e)

-- the next phase begins with the same processes
pub next-procs : (b : Bool) (n : NodeState) → (in_next_phase b n).procs ≡ n.procs
next-procs true n = refl
next-procs false n = refl
