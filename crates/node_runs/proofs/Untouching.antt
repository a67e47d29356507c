-- What a process does agrees with a desk on which nothing of it changed.
use Rattle.std.proofs.Common.{ℕ, Option, Some, None, sym, ap, subst, ◌∙◌}
use Rattle.dom_history.specs.declared.op.Op.{Op}
use Rattle.dom_history.specs.declared.op.Op.TheVariants as ops
use Rattle.dom_history.specs.Locks.{is_free}
use Rattle.dom_history.specs.Replies.{may_delete}
use Rattle.ring_messages.specs.Bodies.{Ask}
use Rattle.fault_handler.specs.declared.open_call.OpenCall.{OpenCall}
use Rattle.fault_handler.specs.declared.tasks.Task.{Task}
use Rattle.fault_handler.specs.declared.transits.Transit.{Transit}
use Rattle.fault_handler.specs.Entries.{state_in, entry_of}
use Rattle.fault_handler.specs.Desks.{DeskState, IsNode, open_call_of, task_of, moving_of}
use Rattle.fault_handler.specs.Next.{IsCallOf, IsRequest, MayGoOn}
use Rattle.lock_validate.specs.Untouched.{IsUntouched}
use Rattle.lock_validate.proofs.Beside.{IsIdle-untouched, IsReady-untouched}
use Rattle.node_runs.specs.NodeStates.{Await, OpenOp}
use Rattle.node_runs.specs.Agreements.{IsCallOpen, IsCalling, IsDoing, Agrees}

module _ (d e : DeskState) (q : ℕ) (same : IsUntouched d e q) where
  resumes-untouched : (op : Op) → MayGoOn d q op → MayGoOn e q op
  resumes-untouched (ops.Load spot count) goes = tt
  resumes-untouched (ops.Store spot bytes) goes = tt
  resumes-untouched (ops.Unlock u) goes = ap (λ es. is_free (state_in (entry_of u es))) same.entries ∙ goes
  resumes-untouched (ops.Delete u) goes = ap (λ es. may_delete (state_in (entry_of u es))) same.entries ∙ goes
  resumes-untouched (ops.New home kind room) goes = absurd goes
  resumes-untouched (ops.List home after) goes = absurd goes
  resumes-untouched (ops.Lock u m) goes = absurd goes
  resumes-untouched (ops.Length u) goes = absurd goes
  resumes-untouched (ops.Map u) goes = absurd goes
  resumes-untouched (ops.Unmap u) goes = absurd goes

  open-untouched : (op : Op) (ask : Ask) → IsCallOpen d q op ask → IsCallOpen e q op ask
  open-untouched op ask is = record {
    opened = subst (λ (t : Option Task). IsCallOf op t (open_call_of e q)) (sym same.task) (subst (IsCallOf op (task_of d q)) (sym same.call) is.opened);
    ready = IsReady-untouched d e q same is.ready;
    request = subst (λ (t : Option Transit). IsRequest t (open_call_of e q) ask) (sym same.moving) (subst (λ (c : Option OpenCall). IsRequest (moving_of d q) c ask) (sym same.call) is.request);
  }

  calling-untouched : (op : Op) (ask : Ask) → IsCalling d q op ask → IsCalling e q op ask
  calling-untouched (ops.New home kind room) ask is = (IsIdle-untouched d e q same is.0, is.1)
  calling-untouched (ops.List home after) ask is = (IsIdle-untouched d e q same is.0, is.1)
  calling-untouched (ops.Lock u m) ask is = open-untouched (ops.Lock u m) ask is
  calling-untouched (ops.Unlock u) ask is = open-untouched (ops.Unlock u) ask is
  calling-untouched (ops.Delete u) ask is = open-untouched (ops.Delete u) ask is
  calling-untouched (ops.Load spot count) ask is = open-untouched (ops.Load spot count) ask is
  calling-untouched (ops.Store spot bytes) ask is = open-untouched (ops.Store spot bytes) ask is
  calling-untouched (ops.Length u) ask is = open-untouched (ops.Length u) ask is
  calling-untouched (ops.Map u) ask is = open-untouched (ops.Map u) ask is
  calling-untouched (ops.Unmap u) ask is = open-untouched (ops.Unmap u) ask is

  doing-untouched : (last : ℕ) (op : Op) (a : Await) → IsDoing d q last op a → IsDoing e q last op a
  doing-untouched last op (Await.Answer c) is =
      (calling-untouched op c.ask is.0, record { home = subst (λ n. IsNode n c.home) (sym same.nodes) is.1.home; body = is.1.body; number = is.1.number; least = is.1.least; few = is.1.few })
  doing-untouched last op (Await.Page u k) is = record { idle = IsIdle-untouched d e q same is.idle; resumes = resumes-untouched op is.resumes }

  pub Agrees-untouched : (last : ℕ) (o : Option OpenOp) → Agrees d q last o → Agrees e q last o
  Agrees-untouched last None is = IsIdle-untouched d e q same is
  Agrees-untouched last (Some o) is = (is.0, doing-untouched last o.began.op o.awaits is.1)
