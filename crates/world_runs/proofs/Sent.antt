-- What an event sends has the event's tick, and goes where its effects say.
use Rattle.std.proofs.Common.{◌≡◌, ℕ, List, Option, Some, None, refl, sym, subst}
use Rattle.uid_names.specs.Names.{ObjectName}
use Rattle.dom_history.specs.declared.event.What.{What}
use Rattle.dom_history.specs.declared.event.Sent.{Sent}
use Rattle.ring_messages.specs.Frames.{Message}
use Rattle.fault_handler.specs.Outcomes.{Turn, Moved}
use Rattle.node_runs.specs.Setups.{Given}
use Rattle.node_runs.specs.NodeStates.{BegunOp, NodeState}
use Rattle.node_runs.specs.Incomings.{Incoming}
use Rattle.node_runs.specs.Outcomes.{Stepped, Stage, turned, moved}
use Rattle.node_runs.specs.Doings.{begun_at, stage_of, ticked}
use Rattle.node_runs.specs.Dones.{Did, paused, finished, began, resumed, served, passed_over, heard, ignored, resent, gave_up, got_ready, marked}
use Rattle.node_runs.specs.Steps.{step_of}
use Rattle.node_runs.proofs.Doing.{step_of-did}
use Rattle.node_runs.proofs.Ticks.{step_of-tick}

abbrev pub IsSent : ℕ → Option Message → Option Sent → Type 0
IsSent tick None sent = sent ≡ None
IsSent tick (Some m) None = ⊥
IsSent tick (Some m) (Some x) = (m.tick ≡ tick) × (x.to ≡ m.to)

module _ (g : Given) (n : NodeState) where
  turned-sent : (p : ℕ) (o : BegunOp) (stage : Stage) (turn : Turn) → IsSent n.tick (turned g n p o stage turn).frame (turned g n p o stage turn).effects.sent
  turned-sent p o stage (Turn.Ends reply) = refl
  turned-sent p o stage (Turn.Asks home ask) = (refl, refl)
  turned-sent p o stage (Turn.Waits u k) = refl

moved-sent : (g : Given) (n : NodeState) (p : ℕ) (o : BegunOp) (stage : Stage) (m : Moved) → IsSent n.tick (moved g n p o stage m).frame (moved g n p o stage m).effects.sent
moved-sent g n p o stage m = turned-sent g (record n { desk = m.desk }) p o stage m.turn

did-sent : (g : Given) (n : NodeState) (what : What) (incoming : Incoming) (s : Stepped) → Did g n what incoming s → IsSent n.tick s.frame s.effects.sent
did-sent g n what incoming s (paused p has none is) = refl
did-sent g n what incoming s (finished p has none is) = refl
did-sent g n what incoming s (began p op to has none is may) = moved-sent g n p (begun_at g n op) Stage.Starts to
did-sent g n what incoming s (resumed p o u k accessed to has is come goes may) = moved-sent g n p o Stage.Resumes to
did-sent g n what incoming s (served from index m ask answer sender receiver asks is) = (refl, refl)
did-sent g n what incoming s (passed_over from index m ask sender receiver asks is) = refl
did-sent g n what incoming s (heard from index m o c said to sender receiver asks is same fits may) = moved-sent g n m.proc o (stage_of m.number said) to
did-sent g n what incoming s (ignored from index m sender receiver asks) = refl
did-sent g n what incoming s (resent p from to index number tick o c has is same answer) = (refl, refl)
did-sent g n what incoming s (gave_up p from to index number tick o c into has is same answer fails) = moved-sent g n p o (Stage.Settles c.waiting.number) into
did-sent g n what incoming s (got_ready phase may) = refl
did-sent g n what incoming s (marked from phase tick may) = refl

pub step-sent : (g : Given) (n : NodeState) (what : What) (incoming : Incoming) (dropped : List (ObjectName × ℕ)) (s : Stepped)
    → step_of g n what incoming dropped ≡ Some s → IsSent s.node.tick s.frame s.effects.sent
step-sent g n what incoming dropped s e =
    subst (λ t. IsSent t s.frame s.effects.sent) (sym (step_of-tick g n what incoming dropped s e))
    (did-sent g (ticked n incoming) what incoming s (step_of-did g n what incoming dropped s e))
