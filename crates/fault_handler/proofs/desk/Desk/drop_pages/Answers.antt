use Rattle.fault_handler.specs.Insides.{desk_of}
use Rattle.fault_handler.proofs.PageKeeps.{IsDesk-with_no_page}
use Rattle.fault_handler.proofs.desk.Desk.drop_pages.Goals as goal

pub invariant_of-self : goal.invariant_of-self
invariant_of-self c = rw c.drop_object.ensures (IsDesk-with_no_page (desk_of c.self.inside) c.args.uid c.self.invariant (rw (← c.self.view_is) at c.requires.still))
