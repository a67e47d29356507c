use Rattle.std.proofs.Common.{IfOk, arith}
use Rattle.dom_history.specs.declared.op.Op.TheVariants as ops
use Rattle.fault_handler.specs.Outcomes.{Gives}
use Rattle.lock_validate.specs.Steps.{as_step}
use Rattle.lock_validate.specs.Releases.{begin_delete_of}
use Rattle.lock_validate.proofs.Releasing.{begin_delete_of-good}
use Rattle.lock_validate.proofs.Outcomes.{told}
use Rattle.lock_validate.proofs.releases.begin_delete.Goals as goal

pub returns : goal.returns
returns c =
    let d = c.args.desk.now in
    let p = c.args.proc.number in
    let u = c.args.uid in
    let gives : IfOk c.delete_by.result (Gives as_step c.delete_by.new.desk (begin_delete_of d p u)) = rw (← c.state-state.ensures.value) c.delete_by.ensures.outcome in
    let tells = told d c.delete_by.new.desk p (ops.Delete u) (begin_delete_of d p u) c.delete_by.result
    (begin_delete_of-good d p u c.state-state.ensures.kept (omega arith, omega arith) c.requires.idle)
    gives in
    record { unchanged = c.delete_by.ensures.unchanged; memory = c.delete_by.ensures.memory; outcome = gives; fits = tells.fits; asks = tells.asks; next = tells.next; ready = tells.ready; node = tells.node; nodes = tells.nodes }
