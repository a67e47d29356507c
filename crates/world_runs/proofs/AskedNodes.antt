-- What an event sends goes to a node of the opening: a request to the home that an open call asks, an answer to where
-- the request came from.
use Rattle.std.proofs.Common.{◌≡◌, ℕ, true, length, IfSome, sym, ap, subst}
use Rattle.dom_history.specs.declared.event.What.{What}
use Rattle.fault_handler.specs.Desks.{DeskState, IsNode}
use Rattle.fault_handler.specs.Invariant.{IsProc}
use Rattle.fault_handler.specs.Outcomes.{Turn, Moved}
use Rattle.fault_handler.proofs.Fours.{at-put_same}
use Rattle.node_runs.specs.Setups.{Given}
use Rattle.node_runs.specs.NodeStates.{Asked, BegunOp, NodeState, first_proc, proc_of}
use Rattle.node_runs.specs.Incomings.{Incoming, has_program}
use Rattle.node_runs.specs.Outcomes.{Stepped, Stage, next_call, turned, moved}
use Rattle.node_runs.specs.Doings.{begun_at, stage_of, noticed_call}
use Rattle.node_runs.specs.Dones.{Did, asking, paused, finished, began, resumed, served, passed_over, heard, ignored, resent, gave_up, got_ready, marked}
use Rattle.node_runs.specs.Agreements.{Agrees}
use Rattle.node_runs.specs.SentFrames.{IsIncoming}
use Rattle.node_runs.specs.NodesKeep.{IsNodeOf}
use Rattle.world_runs.specs.NamedNodes.{NamesNodesIn}

-- each open call of a node asks one of so many nodes
abbrev pub AskNodes : ℕ → NodeState → Type 0
AskNodes nodes n = (p : ℕ) → IsProc p → (o : BegunOp) (c : Asked) → (proc_of n p).doing ≡ asking o c → IsNode nodes c.home

pub asks-nodes : (g : Given) (n : NodeState) → IsNodeOf g n → AskNodes g.opening.nodes n
asks-nodes g n is p proc o c same =
    let agrees = subst (Agrees n.desk p (proc_of n p).last) same (is.agrees p proc) in
    subst (λ k. IsNode k c.home) is.own.nodes agrees.1.1.home

module _ (nodes : ℕ) (g : Given) (n : NodeState) (four : length n.procs ≡ 4) where
  abbrev GoesTo : Stepped → Type 0
  GoesTo s = IfSome s.frame (λ m. IsNode nodes m.to)

  turned-to : (p : ℕ) → IsProc p → (o : BegunOp) (stage : Stage) (d : DeskState) (turn : Turn) → AskNodes nodes (turned g (record n { desk = d }) p o stage turn).node → GoesTo (turned g (record n { desk = d }) p o stage turn)
  turned-to p proc o stage d (Turn.Ends reply) ask = tt
  turned-to p proc o stage d (Turn.Asks home request) ask = ask p proc o (next_call (proc_of n p) home request) (ap (λ q. q.doing) (at-put_same n.procs p _ first_proc four proc))
  turned-to p proc o stage d (Turn.Waits u k) ask = tt

  moved-to : (p : ℕ) → IsProc p → (o : BegunOp) (stage : Stage) (m : Moved) → AskNodes nodes (moved g n p o stage m).node → GoesTo (moved g n p o stage m)
  moved-to p proc o stage m ask = turned-to p proc o stage m.desk m.turn ask

  pub did-to : ((p : ℕ) → has_program g p ≡ true → IsProc p) → (what : What) (incoming : Incoming) (s : Stepped) → IsIncoming incoming → NamesNodesIn nodes what → AskNodes nodes s.node → Did g n what incoming s → GoesTo s
  did-to procs what incoming s frame named ask (paused p has none is) = tt
  did-to procs what incoming s frame named ask (finished p has none is) = tt
  did-to procs what incoming s frame named ask (began p op to has none is may) = moved-to p (procs p has) (begun_at g n op) Stage.Starts to ask
  did-to procs what incoming s frame named ask (resumed p o u k accessed to has is come goes may) = moved-to p (procs p has) o Stage.Resumes to ask
  did-to procs what incoming s frame named ask (served from index m request answer sender receiver asks is) = subst (IsNode nodes) (sym sender) named
  did-to procs what incoming s frame named ask (passed_over from index m request sender receiver asks is) = tt
  did-to procs what incoming s frame named ask (heard from index m o c said to sender receiver asks is same fits may) = moved-to m.proc (frame.range.proc_low, frame.range.proc_high) o (stage_of m.number said) to ask
  did-to procs what incoming s frame named ask (ignored from index m sender receiver asks) = tt
  did-to procs what incoming s frame named ask (resent p from to index number tick o c has is same answer) = ask p (procs p has) o (noticed_call c) (ap (λ q. q.doing) (at-put_same n.procs p _ first_proc four (procs p has)))
  did-to procs what incoming s frame named ask (gave_up p from to index number tick o c into has is same answer fails) = moved-to p (procs p has) o (Stage.Settles c.waiting.number) into ask
  did-to procs what incoming s frame named ask (got_ready phase may) = tt
  did-to procs what incoming s frame named ask (marked from phase tick may) = tt
