use Rattle.std.proofs.Common.{true, false, refl, arith}
use Rattle.lock_validate.specs.Locking.{begin_lock_of}
use Rattle.lock_validate.specs.Releases.{begin_unlock_of, begin_delete_of}
use Rattle.lock_validate.specs.Causes.{Cause}
use Rattle.desk_bench.proofs.Keeps.{settled-ready}
use Rattle.desk_bench.proofs.driver.begin.Goals as goal

pub returns-in_ok-begin_lock-in-Lock : goal.returns-in_ok-begin_lock-in-Lock
returns-in_ok-begin_lock-in-Lock c =
    let d = c.args.desk.now in
    let p = c.in_ok-proc.proc.number in
    settled-ready d c.begin_lock.new.desk p c.requires.ready c.in_ok-proc.ensures.desk (omega arith, omega arith) (Cause.Locks c.in-Lock.uid c.in-Lock.mode) c.in_ok-begin_lock-in-Lock.ensures.ready
    (begin_lock_of d p c.in-Lock.uid c.in-Lock.mode) c.in_ok-proc.ensures.idle refl c.in_ok-begin_lock-in-Lock.ensures.outcome.0

pub returns-in_ok-begin_unlock-in-Unlock : goal.returns-in_ok-begin_unlock-in-Unlock
returns-in_ok-begin_unlock-in-Unlock c =
    let d = c.args.desk.now in
    let p = c.in_ok-proc.proc.number in
    settled-ready d c.begin_unlock.new.desk p c.requires.ready c.in_ok-proc.ensures.desk (omega arith, omega arith) (Cause.Releases false c.in-Unlock.uid) c.in_ok-begin_unlock-in-Unlock.ensures.ready
    (begin_unlock_of d p c.in-Unlock.uid) c.in_ok-proc.ensures.idle refl c.in_ok-begin_unlock-in-Unlock.ensures.outcome.0

pub returns-in_ok-begin_delete-in-Delete : goal.returns-in_ok-begin_delete-in-Delete
returns-in_ok-begin_delete-in-Delete c =
    let d = c.args.desk.now in
    let p = c.in_ok-proc.proc.number in
    settled-ready d c.begin_delete.new.desk p c.requires.ready c.in_ok-proc.ensures.desk (omega arith, omega arith) (Cause.Releases true c.in-Delete.uid) c.in_ok-begin_delete-in-Delete.ensures.ready
    (begin_delete_of d p c.in-Delete.uid) c.in_ok-proc.ensures.idle refl c.in_ok-begin_delete-in-Delete.ensures.outcome.0
