use Rattle.std.proofs.Common.{◌≡◌, ◌-◌, Some, IsSome, refl, sym, subst, arith}
use Rattle.fault_handler.specs.Desks.{task_of}
use Rattle.fault_handler.specs.Invariant.{IsProc}
use Rattle.fault_handler.specs.Insides.{desk_of}
use Rattle.fault_handler.proofs.TransitKeeps.{page-comes, IsDesk-with_arrival, IsIdle-with_arrival}
use Rattle.fault_handler.proofs.Replying.{allowed-arrived}
use Rattle.fault_handler.proofs.desk.Desk.arrive.Goals as goal

pub ended-requires-clause-there : goal.ended-requires-clause-there
ended-requires-clause-there c =
    let at : c.index_of-at.result ≡ c.args.proc.number - 1 = omega arith in
    let found = page-comes (desk_of c.self.inside) c.args.proc.number c.self.invariant (omega arith, omega arith) c.args.uid c.args.page (rw (← c.self.view_is) at c.requires) in
    rw at (subst IsSome (sym found.1) refl)

pub invariant_of-self-2 : goal.invariant_of-self-2
invariant_of-self-2 c =
    let at : c.index_of-at.result ≡ c.args.proc.number - 1 = omega arith in
    rw (c.ended.ensures.others, at, c.in_ok-arrive.ensures.ok)
    (IsDesk-with_arrival (desk_of c.self.inside) c.args.proc.number c.self.invariant (omega arith, omega arith) c.args.uid c.args.page c.args.bytes.now (rw (← c.self.view_is) at c.requires) c.told-bytes)

pub returns-clause-idle : goal.returns-clause-idle
returns-clause-idle c =
    let at : c.index_of-at.result ≡ c.args.proc.number - 1 = omega arith in
    rw (c.ended.ensures.others, at, c.in_ok-arrive.ensures.ok)
    (IsIdle-with_arrival (desk_of c.self.inside) c.args.proc.number c.self.invariant (omega arith, omega arith) c.args.uid c.args.page c.args.bytes.now (rw (← c.self.view_is) at c.requires))

pub returns-clause-allowed : goal.returns-clause-allowed
returns-clause-allowed c =
    let at : c.index_of-at.result ≡ c.args.proc.number - 1 = omega arith in
    let there : task_of (desk_of c.self.inside) c.args.proc.number ≡ Some c.ended.result = rw (← at) c.ended.ensures.task in
    let proc : IsProc c.args.proc.number = (omega arith, omega arith) in
    rw (← c.self.view_is) (allowed-arrived (desk_of c.self.inside) c.args.proc.number c.self.invariant proc c.args.uid c.args.page (rw (← c.self.view_is) at c.requires) c.ended.result there)
