use Rattle.std.proofs.Common.{Result, Ok, refl, arith}
use Rattle.uid_names.specs.declared.no_memory.NoMemory.{NoMemory}
use Rattle.dom_history.specs.declared.op.Op.TheVariants as ops
use Rattle.fault_handler.specs.Outcomes.{Gives}
use Rattle.lock_validate.specs.declared.step.Step.{Step}
use Rattle.lock_validate.specs.Steps.{as_step}
use Rattle.lock_validate.specs.Locking.{begin_lock_of}
use Rattle.lock_validate.proofs.Releasing.{begin_lock_of-good}
use Rattle.lock_validate.proofs.Outcomes.{told}
use Rattle.lock_validate.proofs.locking.begin_lock.Goals as goal

pub returns : goal.returns
returns c =
    let d = c.args.desk.now in
    let p = c.args.proc.number in
    let u = c.args.uid in
    let m = c.args.mode in
    let gives : Gives as_step c.lock_by.new.desk (begin_lock_of d p u m) c.lock_by.result = rw (← c.state-state.ensures.value) c.lock_by.ensures in
    let result : Result Step NoMemory = Ok c.lock_by.result in
    let tells = told d c.lock_by.new.desk p (ops.Lock u m) (begin_lock_of d p u m) result
    (begin_lock_of-good d p u c.state-state.ensures.kept (omega arith, omega arith) c.requires.idle m)
    gives in
    record { done = refl; outcome = gives; fits = tells.fits; asks = tells.asks; next = tells.next; ready = tells.ready; node = tells.node; nodes = tells.nodes }
