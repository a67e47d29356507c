use Rattle.std.proofs.Common.{arith}
use Rattle.fault_handler.specs.Insides.{desk_of}
use Rattle.fault_handler.proofs.TransitKeeps.{IsDesk-with_sent_page}
use Rattle.fault_handler.proofs.desk.Desk.send_page.Goals as goal

pub invariant_of-self : goal.invariant_of-self
invariant_of-self c =
    let asked = rw (← c.self.view_is) at c.requires in
    rw c.send.ensures
    (IsDesk-with_sent_page (desk_of c.self.inside) c.args.proc.number c.self.invariant (omega arith, omega arith) c.args.uid c.args.page asked.keeps asked.other asked.alone asked.resident asked.still)
