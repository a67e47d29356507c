-- What an event of a node tells its processes.
use Rattle.std.proofs.Common.{◌≡◌, ℕ, false, List, [], ◌∷◌, Option, refl, ap, ◌∙◌}
use Rattle.std.specs.Prelude.{if◌then◌else◌}
use Rattle.uid_names.specs.Names.{ProcName, same_proc}
use Rattle.uid_names.specs.Openings.{Start}
use Rattle.uid_names.proofs.Orders.{same_proc-itself}
use Rattle.dom_history.specs.declared.op.Op.{Op}
use Rattle.dom_history.specs.declared.op.Op.TheVariants as ops
use Rattle.dom_history.specs.declared.deed.Deed.{Deed}
use Rattle.dom_history.specs.StoreEffects.{own}
use Rattle.fault_handler.specs.Outcomes.{Turn}
use Rattle.node_runs.specs.Setups.{Given}
use Rattle.node_runs.specs.NodeStates.{BegunOp, OpenOp, NodeState, name_of}
use Rattle.node_runs.specs.Incomings.{Incoming}
use Rattle.node_runs.specs.Outcomes.{Stage, Stepped}
use Rattle.run_laws.specs.DeskSteps.{IsOfHome, IsHomeBegin, IsHomeTurn, NodeMove, still, moved, turn_note}
use Rattle.run_laws.specs.NotedDeeds.{note_deeds}
use Rattle.run_laws.proofs.NotedDeeds.{apart-deeds}

-- what the outcome of an operation tells its process
abbrev pub turn_deeds : ProcName → Op → Turn → List Deed
turn_deeds p op (Turn.Ends reply) = record { proc = p; op = op; reply = reply } ∷ []
turn_deeds p op (Turn.Asks home ask) = []
turn_deeds p op (Turn.Waits u k) = []

pub note-turn : (stage : Stage) (p : ProcName) (phase : ℕ) (o : BegunOp) (turn : Turn) → note_deeds (turn_note stage p phase o turn) ≡ turn_deeds p o.op turn
note-turn Stage.Starts p phase o (Turn.Ends reply) = refl
note-turn Stage.Resumes p phase o (Turn.Ends reply) = refl
note-turn (Stage.Settles number) p phase o (Turn.Ends reply) = refl
note-turn Stage.Starts p phase o (Turn.Asks home ask) = refl
note-turn Stage.Resumes p phase o (Turn.Asks home ask) = refl
note-turn (Stage.Settles number) p phase o (Turn.Asks home ask) = refl
note-turn Stage.Starts p phase o (Turn.Waits u k) = refl
note-turn Stage.Resumes p phase o (Turn.Waits u k) = refl
note-turn (Stage.Settles number) p phase o (Turn.Waits u k) = refl

-- it is told to that process alone
pub own-turn : (p : ProcName) (op : Op) (turn : Turn) → own p (turn_deeds p op turn) ≡ turn_deeds p op turn
own-turn p op (Turn.Ends reply) = let d : Deed = record { proc = p; op = op; reply = reply } in ap (λ b. if b then d ∷ [] else []) (same_proc-itself p)
own-turn p op (Turn.Asks home ask) = refl
own-turn p op (Turn.Waits u k) = refl

pub other-turn : (p q : ProcName) (op : Op) (turn : Turn) → same_proc p q ≡ false → own q (turn_deeds p op turn) ≡ []
other-turn p q op (Turn.Ends reply) other = let d : Deed = record { proc = p; op = op; reply = reply } in ap (λ b. if b then d ∷ [] else []) other
other-turn p q op (Turn.Asks home ask) other = refl
other-turn p q op (Turn.Waits u k) other = refl

-- a process of another node is told nothing
pub away-deeds : (g : Given) (n : NodeState) (incoming : Incoming) (s : Stepped) (r : ProcName) → ((p : ℕ) → same_proc (name_of g p) r ≡ false) → NodeMove g n incoming s → own r (note_deeds s.note) ≡ []
away-deeds g n incoming s r other (still desk same quiet uncalled) = ap (own r) (apart-deeds s.note quiet)
away-deeds g n incoming s r other (moved p o stage m proc at made desk doing others note call side) =
    ap (λ k. own r (note_deeds k)) note ∙ (ap (own r) (note-turn stage (name_of g p) _ o m.turn) ∙ other-turn (name_of g p) r o.op m.turn (other p))

-- the desk has no part in a new object or a list alone
pub home-op : (opening : Start) (incoming : Incoming) (p : ℕ) (doing : Option OpenOp) (stage : Stage) (op : Op) (turn : Turn) → IsHomeTurn opening incoming p doing stage op turn → IsOfHome op
home-op opening incoming p doing Stage.Starts op turn is = by op is
  where
    by : (op : Op) → IsHomeBegin opening op turn → IsOfHome op
    by (ops.New home kind room) is = tt
    by (ops.List home after) is = tt
    by op is = absurd is
home-op opening incoming p doing Stage.Resumes op turn is = absurd is
home-op opening incoming p doing (Stage.Settles number) op (Turn.Ends reply) is = is.0
home-op opening incoming p doing (Stage.Settles number) op (Turn.Asks home ask) is = absurd is
home-op opening incoming p doing (Stage.Settles number) op (Turn.Waits u k) is = absurd is
