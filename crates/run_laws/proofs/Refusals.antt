-- What a desk answers to a new object, a list or a lock without asking a home, a home would not have answered: it is no node.
use Rattle.std.proofs.Common.{◌≡◌, ℕ, Bool, true, false, List, Option, Some, refl, sym, ap, subst, ◌∙◌}
use Rattle.std.specs.Prelude.{nat_le, ◌&&◌}
use Rattle.uid_names.specs.Names.{ObjectName}
use Rattle.uid_names.specs.Openings.{Start}
use Rattle.dom_history.specs.declared.op.Op.{Op}
use Rattle.dom_history.specs.declared.op.Op.TheVariants as ops
use Rattle.dom_history.specs.declared.op.Reply.{Reply}
use Rattle.dom_history.specs.declared.op.Reply.TheVariants as replies
use Rattle.dom_history.specs.Objects.{is_node}
use Rattle.fault_handler.specs.declared.tasks.Task.{Task}
use Rattle.fault_handler.specs.Accesses.{DeskOp}
use Rattle.fault_handler.specs.Desks.{DeskState, task_of}
use Rattle.fault_handler.specs.Outcomes.{Turn, Moved}
use Rattle.fault_handler.specs.Next.{release_op, IsTaskOf, IsCallOf}
use Rattle.lock_validate.specs.Causes.{Cause, MayCome, IsOf, op_of}
use Rattle.lock_validate.specs.Loading.{IsTaskIn}
use Rattle.lock_validate.specs.Refusals.{Refuses}
use Rattle.lock_validate.specs.Turns.{Says}
use Rattle.node_runs.specs.Setups.{Setup, IsSetup, Given, given}
use Rattle.node_runs.specs.NodeStates.{BegunOp, NodeState, proc_of, name_of}
use Rattle.node_runs.specs.Incomings.{Incoming}
use Rattle.node_runs.specs.Notes.{Note}
use Rattle.node_runs.specs.Outcomes.{Stage, Stepped, end_note, open_note}
use Rattle.node_runs.specs.NodesKeep.{IsTimely}
use Rattle.node_runs.specs.Runs.{World, Noted, Choice, world_after}
use Rattle.node_runs.specs.CallsKeep.{EachOf}
use Rattle.node_runs.specs.Doings.{ticked}
use Rattle.node_runs.proofs.SettingUp.{setup-procs}
use Rattle.run_laws.specs.Progress.{IsApart}
use Rattle.run_laws.proofs.HearingRuns.{IsKeptNext, every-kept-run}
use Rattle.run_laws.specs.DeskSteps.{IsStageOf, IsHomeBegin, IsHomeTurn, OpMove, apart, moves, turn_note, NodeMove, still, moved}
use Rattle.run_laws.proofs.EventMoves.{desk-moves}

abbrev pub IsRefusal : Start → Op → Reply → Type 0
IsRefusal opening (ops.New home kind room) reply = (is_node opening home && nat_le room opening.greatest) ≡ false
IsRefusal opening (ops.List home after) reply = is_node opening home ≡ false
IsRefusal opening (ops.Lock u m) replies.NoObject = is_node opening u.home ≡ false
IsRefusal opening op reply = Unit {0}

abbrev pub IsNoteRefusal : Start → Note → Type 0
IsNoteRefusal opening (Note.Did p phase op reply) = IsRefusal opening op reply
IsNoteRefusal opening note = Unit {0}

module _ (opening : Start) where
  abbrev EndsAt : Cause → Reply → Type 0
  EndsAt (Cause.Locks u m) reply = IsRefusal opening (ops.Lock u m) reply
  EndsAt c reply = Unit {0}

  abbrev SaidAt : Cause → Turn → Type 0
  SaidAt c (Turn.Ends reply) = EndsAt c reply
  SaidAt c turn = Unit {0}

  module _ (d e : DeskState) (p : ℕ) (nodes : d.nodes ≡ opening.nodes) where
    task-at : (c : Cause) (task : Task) (reply : Reply) → IsTaskIn d p c task → EndsAt c reply
    task-at (Cause.Locks u m) task reply is = absurd is
    task-at c task reply is = tt

    refused-at : (c : Cause) (reply : Reply) → Refuses d p c reply → EndsAt c reply
    refused-at c reply (Refuses.lock_elsewhere u m free room away) = ap (λ n. nat_le 1 u.home && nat_le u.home n) (sym nodes) ∙ away
    refused-at c reply refuses = tt

    said-at : (c : Cause) (turn : Turn) → Says d p e c turn → SaidAt c turn
    said-at c turn (Says.refuses cause reply refused same) = refused-at c reply refused
    said-at c turn (Says.loads cause task count r given work there) = task-at c task _ given
    said-at c turn (Says.stores cause task bytes r given work there within) = task-at c task _ given
    said-at c turn says = tt

  access-refusal : (access : DeskOp) (reply : Reply) → IsRefusal opening (op_of access) reply
  access-refusal (DeskOp.Loads spot count) reply = tt
  access-refusal (DeskOp.Stores spot bytes) reply = tt
  access-refusal (DeskOp.Measures u) reply = tt
  access-refusal (DeskOp.Maps u) reply = tt
  access-refusal (DeskOp.Unmaps u) reply = tt

  release-refusal : (delete : Bool) (u : ObjectName) (reply : Reply) → IsRefusal opening (release_op delete u) reply
  release-refusal true u reply = tt
  release-refusal false u reply = tt

  task-refusal : (op : Op) (task : Option Task) (reply : Reply) → IsTaskOf op task → IsRefusal opening op reply
  task-refusal (ops.New home kind room) task reply is = absurd is
  task-refusal (ops.List home after) task reply is = absurd is
  task-refusal (ops.Lock u m) task reply is = absurd is
  task-refusal (ops.Unlock u) task reply is = tt
  task-refusal (ops.Delete u) task reply is = tt
  task-refusal (ops.Load spot count) task reply is = tt
  task-refusal (ops.Store spot bytes) task reply is = tt
  task-refusal (ops.Length u) task reply is = tt
  task-refusal (ops.Map u) task reply is = tt
  task-refusal (ops.Unmap u) task reply is = tt

  begin-refusal : (op : Op) (reply : Reply) → IsHomeBegin opening op (Turn.Ends reply) → IsRefusal opening op reply
  begin-refusal (ops.New home kind room) reply is = is.1
  begin-refusal (ops.List home after) reply is = is.1
  begin-refusal (ops.Lock u m) reply is = absurd is
  begin-refusal (ops.Unlock u) reply is = tt
  begin-refusal (ops.Delete u) reply is = tt
  begin-refusal (ops.Load spot count) reply is = tt
  begin-refusal (ops.Store spot bytes) reply is = tt
  begin-refusal (ops.Length u) reply is = tt
  begin-refusal (ops.Map u) reply is = tt
  begin-refusal (ops.Unmap u) reply is = tt

  module _ (d : DeskState) (p : ℕ) (op : Op) (reply : Reply) where
    started : (c : Cause) → IsStageOf Stage.Starts c → IsOf d p c op → EndsAt c reply → IsRefusal opening op reply
    started (Cause.Accesses access) at of ends = subst (λ x. IsRefusal opening x reply) (sym of) (access-refusal access reply)
    started (Cause.Locks u m) at of ends = subst (λ x. IsRefusal opening x reply) (sym of) ends
    started (Cause.Releases delete u) at of ends = subst (λ x. IsRefusal opening x reply) (sym of) (release-refusal delete u reply)
    started (Cause.PageCame a) at of ends = absurd at
    started (Cause.AnswerCame a) at of ends = absurd at
    started (Cause.AccessFailed t) at of ends = absurd at
    started (Cause.CallFailed call) at of ends = absurd at

    resumed : (c : Cause) (may : MayCome d p c) → IsStageOf Stage.Resumes c → IsOf d p c op → IsRefusal opening op reply
    resumed (Cause.Accesses access) may at of = subst (λ x. IsRefusal opening x reply) (sym of) (access-refusal access reply)
    resumed (Cause.Releases delete u) may at of = subst (λ x. IsRefusal opening x reply) (sym of) (release-refusal delete u reply)
    resumed (Cause.PageCame a) may at of = task-refusal op (task_of d p) reply (subst (IsCallOf op (task_of d p)) may.accessing of)
    resumed (Cause.Locks u m) may at of = absurd at
    resumed (Cause.AnswerCame a) may at of = absurd at
    resumed (Cause.AccessFailed t) may at of = absurd at
    resumed (Cause.CallFailed call) may at of = absurd at

module _ (g : Given) (n : NodeState) (nodes : n.desk.nodes ≡ g.opening.nodes) (incoming : Incoming) (s : Stepped) where
  ends-refusal : (p : ℕ) (o : BegunOp) (m : Moved) (reply : Reply) → m.turn ≡ Turn.Ends reply → (stage : Stage) → OpMove g.opening incoming (proc_of n p).doing stage n.desk p o.op m
      → IsNoteRefusal g.opening (end_note stage (name_of g p) (proc_of n p).phase o reply)
  ends-refusal p o m reply ends Stage.Starts (apart desk turn) = begin-refusal g.opening o.op reply (subst (IsHomeBegin g.opening o.op) ends turn)
  ends-refusal p o m reply ends Stage.Starts (moves c may of at taken made) = started g.opening n.desk p o.op reply c at of (subst (SaidAt g.opening c) ends (said-at g.opening n.desk m.desk p nodes c m.turn made.says))
  ends-refusal p o m reply ends Stage.Resumes (apart desk turn) = absurd (subst (IsHomeTurn g.opening incoming p (proc_of n p).doing Stage.Resumes o.op) ends turn)
  ends-refusal p o m reply ends Stage.Resumes (moves c may of at taken made) = resumed g.opening n.desk p o.op reply c may at of
  ends-refusal p o m reply ends (Stage.Settles number) move = tt

  open-refusal : (stage : Stage) (o : BegunOp) (p : ℕ) → IsNoteRefusal g.opening (open_note stage (name_of g p) o)
  open-refusal Stage.Starts o p = tt
  open-refusal Stage.Resumes o p = tt
  open-refusal (Stage.Settles number) o p = tt

  apart-refusal : (note : Note) → IsApart note → IsNoteRefusal g.opening note
  apart-refusal Note.Nothing quiet = tt
  apart-refusal (Note.Decided q k ask answer) quiet = tt
  apart-refusal (Note.Began q op) quiet = tt
  apart-refusal (Note.Did q phase op reply) quiet = absurd quiet
  apart-refusal (Note.Ended t) quiet = tt

  node-refusal : NodeMove g n incoming s → IsNoteRefusal g.opening s.note
  node-refusal (still desk same quiet uncalled) = apart-refusal s.note quiet
  node-refusal (moved p o stage m proc at made desk doing others note call side) = subst (IsNoteRefusal g.opening) (sym note) (by m.turn refl)
    where
      by : (turn : Turn) → m.turn ≡ turn → IsNoteRefusal g.opening (turn_note stage (name_of g p) (proc_of n p).phase o turn)
      by (Turn.Ends reply) ends = ends-refusal p o m reply ends stage made
      by (Turn.Asks home ask) ends = open-refusal stage o p
      by (Turn.Waits u k) ends = open-refusal stage o p

abbrev pub AreRefusals : Setup → World → Type 0
AreRefusals s w = EachOf (λ (j : Noted). IsNoteRefusal s.opening j.note) w.trace

-- in every run
pub refusals-are : (s : Setup) → IsSetup s → (cs : List Choice) (w : World) → world_after s cs ≡ Some w → IsTimely w → AreRefusals s w
refusals-are s setup = every-kept-run s setup (setup-procs s setup) (AreRefusals s) tt step
  where
    step : (cs : List Choice) (old : World) (c : Choice) (new : World) → world_after s cs ≡ Some old → IsTimely old → IsKeptNext s old c new → AreRefusals s old → AreRefusals s new
    step cs old c new e timely next are = subst (AreRefusals s) (sym next.is.world) (
      node-refusal (given s c.node) (ticked (old.nodes c.node) next.is.incoming) (next.kept.nodes c.node next.is.node).own.nodes next.is.incoming next.is.step
          (desk-moves s setup old c new next),
      are,
    )
