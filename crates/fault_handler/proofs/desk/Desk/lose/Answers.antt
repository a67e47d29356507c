use Rattle.std.proofs.Common.{◌≡◌, ◌-◌, arith}
use Rattle.fault_handler.specs.Insides.{desk_of}
use Rattle.fault_handler.proofs.TransitKeeps.{IsDesk-with_loss, coming-absent, reserved-least}
use Rattle.fault_handler.proofs.desk.Desk.lose.Goals as goal

pub lose-requires-clause-reserved : goal.lose-requires-clause-reserved
lose-requires-clause-reserved c = reserved-least (desk_of c.self.inside) c.args.proc.number c.self.invariant (omega arith, omega arith) c.args.uid c.args.page (rw (← c.self.view_is) at c.requires)

pub lose-requires-clause-absent : goal.lose-requires-clause-absent
lose-requires-clause-absent c = (coming-absent (desk_of c.self.inside) c.args.proc.number c.self.invariant (omega arith, omega arith) c.args.uid c.args.page (rw (← c.self.view_is) at c.requires)).0

pub invariant_of-self : goal.invariant_of-self
invariant_of-self c =
    let at : c.index_of-at.result ≡ c.args.proc.number - 1 = omega arith in
    rw (at, c.lose.ensures)
    (IsDesk-with_loss (desk_of c.self.inside) c.args.proc.number c.self.invariant (omega arith, omega arith) c.args.uid c.args.page (rw (← c.self.view_is) at c.requires))
