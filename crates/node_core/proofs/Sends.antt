-- What an event sends: a mark, or a frame, or nothing.
use Rattle.std.proofs.Common.{◌≡◌, ℕ, Some, None, List, refl}
use Rattle.uid_names.specs.Names.{ObjectName}
use Rattle.dom_history.specs.declared.event.What.{What}
use Rattle.dom_history.specs.declared.event.What.TheVariants.{Begin, Go, Take, Notice, Ready}
use Rattle.dom_history.specs.declared.event.Sent.{Sent}
use Rattle.ring_messages.specs.Frames.{Message}
use Rattle.fault_handler.specs.Desks.{DeskState}
use Rattle.fault_handler.specs.Outcomes.{Turn, Moved}
use Rattle.node_runs.specs.Setups.{Given}
use Rattle.node_runs.specs.NodeStates.{BegunOp, NodeState}
use Rattle.node_runs.specs.Incomings.{Incoming}
use Rattle.node_runs.specs.Outcomes.{Stepped, Stage, dropping, turned, moved}
use Rattle.node_runs.specs.Doings.{begun_at, stage_of}
use Rattle.node_runs.specs.Dones.{Did, paused, finished, began, resumed, served, passed_over, heard, ignored, resent, gave_up, got_ready, marked}
use Rattle.node_core.specs.Receivings.{mark_in}

-- no event sends both
pub data Sends (n : ℕ) (what : What) (st : Stepped) : Type 0 where
  nothing : mark_in what ≡ None → st.frame ≡ None → st.effects.sent ≡ None → Sends n what st
  mark : (phase : ℕ) → what ≡ Ready phase → st.frame ≡ None → st.effects.sent ≡ None → Sends n what st
  frame : (m : Message) (x : Sent) → mark_in what ≡ None → st.frame ≡ Some m → st.effects.sent ≡ Some x → m.from ≡ n → x.to ≡ m.to → Sends n what st

module _ (g : Given) (n : NodeState) (what : What) (unmarked : mark_in what ≡ None) where
  turned-sends : (p : ℕ) (o : BegunOp) (stage : Stage) (d : DeskState) (dropped : List (ObjectName × ℕ)) (turn : Turn)
      → Sends g.number what (dropping dropped (turned g (record n { desk = d }) p o stage turn))
  turned-sends p o stage d dropped (Turn.Ends reply) = nothing unmarked refl refl
  turned-sends p o stage d dropped (Turn.Asks home ask) = frame _ _ unmarked refl refl refl refl
  turned-sends p o stage d dropped (Turn.Waits u k) = nothing unmarked refl refl

  moved-sends : (p : ℕ) (o : BegunOp) (stage : Stage) (m : Moved) → Sends g.number what (moved g n p o stage m)
  moved-sends p o stage m = turned-sends p o stage m.desk m.dropped m.turn

pub did-sends : (g : Given) (n : NodeState) (what : What) (incoming : Incoming) (s : Stepped) → Did g n what incoming s → Sends g.number what s
did-sends g n what incoming s (paused p has none is) = nothing refl refl refl
did-sends g n what incoming s (finished p has none is) = nothing refl refl refl
did-sends g n what incoming s (began p op to has none is may) = moved-sends g n (Begin p) refl p (begun_at g n op) Stage.Starts to
did-sends g n what incoming s (resumed p o u k accessed to has is come goes may) = moved-sends g n (Go p) refl p o Stage.Resumes to
did-sends g n what incoming s (served from index m ask answer sender receiver asks is) = frame _ _ refl refl refl receiver refl
did-sends g n what incoming s (passed_over from index m ask sender receiver asks is) = nothing refl refl refl
did-sends g n what incoming s (heard from index m o c said to sender receiver asks is same fits may) = moved-sends g n (Take from index) refl m.proc o (stage_of m.number said) to
did-sends g n what incoming s (ignored from index m sender receiver asks) = nothing refl refl refl
did-sends g n what incoming s (resent p from to index number tick o c has is same answer) = frame _ _ refl refl refl refl refl
did-sends g n what incoming s (gave_up p from to index number tick o c into has is same answer fails) =
    moved-sends g n (Notice p from to index) refl p o (Stage.Settles c.waiting.number) into
did-sends g n what incoming s (got_ready phase may) = mark phase refl refl refl
did-sends g n what incoming s (marked from phase tick may) = nothing refl refl refl
