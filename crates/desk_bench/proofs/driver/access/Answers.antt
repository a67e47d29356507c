use Rattle.std.proofs.Common.{refl, arith}
use Rattle.uid_names.proofs.Somes.{there_is}
use Rattle.fault_handler.specs.Accesses.{desk_op, access_of}
use Rattle.fault_handler.specs.Outcomes.{as_access, Gives}
use Rattle.fault_handler.proofs.Outcomes.{IsAfter, Holds}
use Rattle.fault_handler.proofs.Beginning.{access_of-after}
use Rattle.lock_validate.specs.Causes.{Cause}
use Rattle.desk_bench.proofs.Keeps.{desk_op-is, came-ready}
use Rattle.desk_bench.proofs.driver.access.Goals as goal

pub returns : goal.returns
returns c =
    let d = c.args.desk.now in
    let p = c.args.proc.number in
    let op = c.args.op.now in
    let o = there_is (desk_op op) c.requires.access in
    let holds : Holds p (IsAfter d.node d.nodes p op) (access_of d p o.0) = rw o.1 at (access_of-after d p c.requires.desk (omega arith, omega arith) c.requires.idle op c.requires.range) in
    came-ready d c.access.new.self p c.requires.ready c.requires.desk (omega arith, omega arith) (Cause.Accesses o.0) c.in_ok-access.ensures.ready
    (IsAfter d.node d.nodes p op) (λ m. Gives as_access c.access.new.self m c.in_ok-access.field-0) (access_of d p o.0)
    (c.requires.idle, desk_op-is op o.0 o.1 c.requires.range) refl holds (c.in_ok-access.ensures.outcome o.0 o.1) (λ m gives. gives.0)
