use Rattle.fault_handler.specs.Insides.{desk_of}
use Rattle.fault_handler.proofs.KnownKeeps.{IsDesk-with_raised}
use Rattle.fault_handler.proofs.desk.Desk.raise.Goals as goal

pub invariant_of-self : goal.invariant_of-self
invariant_of-self c = rw c.raise.ensures (IsDesk-with_raised (desk_of c.self.inside) c.args.uid c.args.stamp c.self.invariant (rw (← c.self.view_is) at c.requires.known) c.requires.stamp)
