use Rattle.std.proofs.Common.{false, refl, arith}
use Rattle.lock_validate.specs.Releases.{begin_release_of}
use Rattle.lock_validate.specs.Causes.{Cause}
use Rattle.desk_bench.proofs.Keeps.{settled-ready}
use Rattle.desk_bench.proofs.driver.unlock_again.Goals as goal

pub returns : goal.returns
returns c =
    let d = c.args.desk.now in
    let p = c.in_ok-proc.proc.number in
    settled-ready d c.go_on.new.desk p c.requires c.in_ok-proc.ensures.desk (omega arith, omega arith) (Cause.Releases false c.args.uid) c.in_ok-go_on-in-Held.ensures.ready
    (begin_release_of d p false c.args.uid) c.in_ok-proc.ensures.idle refl (c.in_ok-go_on-in-Held.ensures.outcome (false, c.args.uid) refl).0
