use Rattle.std.proofs.Common.{◌≡◌, ◌-◌, arith}
use Rattle.fault_handler.specs.Insides.{desk_of}
use Rattle.fault_handler.proofs.TransitKeeps.{IsDesk-with_fetch}
use Rattle.fault_handler.proofs.desk.Desk.fetch.Goals as goal

pub invariant_of-self : goal.invariant_of-self
invariant_of-self c =
    let at : c.index_of-at.result ≡ c.args.proc.number - 1 = omega arith in
    let asked = rw (← c.self.view_is) at c.requires in
    rw (at, c.fetch.ensures, c.page-page.ensures)
    (IsDesk-with_fetch (desk_of c.self.inside) c.args.proc.number c.self.invariant (omega arith, omega arith) c.args.task asked.idle asked.absent asked.alone asked.allowed)
