use Rattle.fault_handler.specs.Insides.{desk_of}
use Rattle.fault_handler.proofs.PageKeeps.{IsDesk-with_dropped}
use Rattle.fault_handler.proofs.desk.Desk.drop_page.Goals as goal

pub invariant_of-self : goal.invariant_of-self
invariant_of-self c = rw c.remove.ensures (IsDesk-with_dropped (desk_of c.self.inside) c.args.uid c.args.page c.self.invariant (rw (← c.self.view_is) at c.requires))
