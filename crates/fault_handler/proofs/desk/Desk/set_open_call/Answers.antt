use Rattle.std.proofs.Common.{◌≡◌, ◌-◌, arith}
use Rattle.fault_handler.specs.Insides.{desk_of}
use Rattle.fault_handler.proofs.LockKeeps.{IsDesk-with_call}
use Rattle.fault_handler.proofs.desk.Desk.set_open_call.Goals as goal

pub invariant_of-self : goal.invariant_of-self
invariant_of-self c =
    let at : c.index_of.result ≡ c.args.proc.number - 1 = omega arith in
    rw at
    (IsDesk-with_call (desk_of c.self.inside) c.args.proc.number c.args.call c.self.invariant (omega arith, omega arith) (rw (← c.self.view_is) at c.requires.other) c.requires.call (rw (← c.self.view_is) at c.requires.home))
