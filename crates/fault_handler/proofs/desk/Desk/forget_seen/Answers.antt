use Rattle.fault_handler.specs.Insides.{desk_of}
use Rattle.fault_handler.proofs.KnownKeeps.{IsDesk-with_forgotten}
use Rattle.fault_handler.proofs.desk.Desk.forget_seen.Goals as goal

pub invariant_of-self : goal.invariant_of-self
invariant_of-self c = rw c.forget.ensures (IsDesk-with_forgotten (desk_of c.self.inside) c.args.uid c.self.invariant (rw (← c.self.view_is) at c.requires))
