use Rattle.std.proofs.Common.{◌≡◌, Some, IsSome, IfSome, subst, arith}
use Rattle.fault_handler.specs.Desks.{DeskState, open_call_of}
use Rattle.fault_handler.specs.Outcomes.{ended}
use Rattle.fault_handler.specs.LockCalls.{lock_call}
use Rattle.lock_validate.specs.Faults.{failed, call_failed_of}
use Rattle.lock_validate.proofs.Standing.{closed-desk, lock-opened}
use Rattle.lock_validate.proofs.Outcomes.{failed-told}
use Rattle.lock_validate.proofs.faults.call_failed.Goals as goal
use Rattle.fault_handler.proofs.Outcomes.{each-some}

pub failed-requires-clause-kept : goal.failed-requires-clause-kept
failed-requires-clause-kept c =
    let d = c.args.desk.now in
    let p = c.args.proc.number in
    let opened : open_call_of d p ≡ Some c.in-Some.call = rw (← c.open_call-call.ensures.value) c.in-Some.is in
    let lock : IsSome (lock_call c.in-Some.call) = rw opened at c.requires.lock in
    let call = lock-opened d p c.in-Some.call opened lock in
    rw c.set_open_call.ensures (closed-desk d p c.open_call-call.ensures.kept (omega arith, omega arith) c.requires.ready call.0 call.1)

pub returns : goal.returns
returns c =
    let d = c.args.desk.now in
    let p = c.args.proc.number in
    let oc = c.in-Some.call in
    let new = c.failed.new.desk in
    let reply = c.failed.result in
    let opened : open_call_of d p ≡ Some oc = rw (← c.open_call-call.ensures.value) c.in-Some.is in
    let lock : IsSome (lock_call oc) = rw opened at c.requires.lock in
    let call = lock-opened d p oc opened lock in
    let gives : IfSome (lock_call oc) (λ x. call_failed_of d p x ≡ ended new reply) =
    subst (λ (e : DeskState). IfSome (lock_call oc) (λ x. failed e p x ≡ ended new reply)) c.set_open_call.ensures c.failed.ensures in
    let each = each-some (lock_call oc) (λ x. call_failed_of d p x ≡ ended new reply) gives in
    let told = failed-told d new p reply call.0 c.open_call-call.ensures.kept (omega arith, omega arith) c.requires.ready call.1 (each call.0 call.2) in
    record { outcome = λ x is. each x (rw opened at is); fits = told.fits; next = told.next; ready = told.ready; node = told.node; nodes = told.nodes }
