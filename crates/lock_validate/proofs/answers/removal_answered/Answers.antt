use Rattle.std.proofs.Common.{◌≡◌, false, ap, subst, arith}
use Rattle.std.proofs.lemmas.Result.{on_err_weaker}
use Rattle.dom_history.specs.declared.deed.LockState.TheVariants.{Free}
use Rattle.fault_handler.specs.Entries.{keeps}
use Rattle.fault_handler.specs.Desks.{DeskState, entry_at, any_keeps}
use Rattle.fault_handler.proofs.LockKeeps.{IsDesk-with_state}
use Rattle.lock_validate.proofs.States.{released-unkept}
use Rattle.lock_validate.proofs.Entries.{entry-set_same}
use Rattle.lock_validate.proofs.Dropping.{unkept-before}
use Rattle.lock_validate.proofs.answers.removal_answered.Goals as goal

-- The process is Free on the object, which each desk allows.
pub removed-requires-clause-kept : goal.removed-requires-clause-kept
removed-requires-clause-kept c =
    let d = c.args.desk.now in
    let p = c.args.proc.number in
    let u = c.args.uid in
    rw c.set_state.ensures
    (IsDesk-with_state d p u Free 0 c.requires.kept (omega arith, omega arith) (released-unkept (entry_at d.entries p u) c.requires.stands.noted) (λ h. absurd (cc)) (λ h. absurd (cc)) (λ h. absurd (cc)))

pub removed-requires-clause-given_up : goal.removed-requires-clause-given_up
removed-requires-clause-given_up c =
    rw c.set_state.ensures
    (ap keeps (entry-set_same c.args.desk.now c.args.proc.number c.args.uid c.requires.kept (omega arith, omega arith) Free 0))

-- Without memory no process kept the object that was removed.
pub returns-clause-memory : goal.returns-clause-memory
returns-clause-memory c =
    let d = c.args.desk.now in
    let p = c.args.proc.number in
    let u = c.args.uid in
    rw c.in-Done.is
    (on_err_weaker c.removed.result
    (λ none.
    unkept-before d p u (released-unkept (entry_at d.entries p u) c.requires.stands.noted) (omega arith, omega arith)
    (subst (λ (e : DeskState). any_keeps e.entries u ≡ false) c.set_state.ensures none))
    c.removed.ensures.memory)
