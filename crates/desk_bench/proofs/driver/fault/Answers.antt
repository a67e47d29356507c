use Rattle.std.proofs.Common.{◌≡◌, Some, IsSome, refl, sym, ap, ◌∙◌, arith}
use Rattle.dom_history.specs.declared.op.Reply.TheVariants.{LinkFault}
use Rattle.fault_handler.specs.declared.open_call.OpenCall.{OpenCall}
use Rattle.fault_handler.specs.Desks.{open_call_of}
use Rattle.fault_handler.specs.PageReplies.{access_failed_of}
use Rattle.fault_handler.specs.Outcomes.{Moved, ended}
use Rattle.fault_handler.specs.Conditions.{IsAccessing}
use Rattle.fault_handler.specs.LockCalls.{lock_call}
use Rattle.fault_handler.proofs.TransitKeeps.{open_task}
use Rattle.fault_handler.proofs.Accessing.{ready-idle}
use Rattle.lock_validate.specs.Faults.{call_failed_of}
use Rattle.lock_validate.specs.Causes.{Cause}
use Rattle.desk_bench.proofs.Keeps.{lock-some, lock-opened, settled-ready}
use Rattle.desk_bench.proofs.driver.fault.Goals as goal

pub returns-in-Some-Access : goal.returns-in-Some-Access
returns-in-Some-Access c =
    let d = c.args.desk.now in
    let p = c.in_ok-proc.proc.number in
    let access : IsAccessing d p = sym c.open_call.ensures.value ∙ c.in-Some-Access.is ∙ ap (λ (o : OpenCall). Some o) c.in-Some-Access.field-0-is in
    let found = open_task d p c.in_ok-proc.ensures.desk (omega arith, omega arith) access in
    settled-ready d c.access_failed.new.self p c.requires c.in_ok-proc.ensures.desk (omega arith, omega arith) (Cause.AccessFailed found.1)
    (ready-idle c.access_failed.new.self p c.access_failed.ensures.next)
    (ended (access_failed_of d p found.1) LinkFault) (access, found.3) refl (c.access_failed.ensures.desk found.1 found.3)

pub returns-in-Some : goal.returns-in-Some
returns-in-Some c =
    let d = c.args.desk.now in
    let p = c.in_ok-proc.proc.number in
    let opened : open_call_of d p ≡ Some c.in-Some.call = sym c.open_call.ensures.value ∙ c.in-Some.is in
    let some : IsSome (lock_call c.in-Some.call) = rw c.if-is_lock_call.true at c.is_lock_call.ensures in
    let call = lock-opened d p (lock-some d p c.in-Some.call opened some) in
    settled-ready d c.call_failed.new.desk p c.requires c.in_ok-proc.ensures.desk (omega arith, omega arith) (Cause.CallFailed call.0) c.call_failed.ensures.ready
    (call_failed_of d p call.0) (c.requires p (omega arith, omega arith), call.2) refl (sym (ap (λ (m : Moved). m.desk) (c.call_failed.ensures.outcome call.0 call.1)))
