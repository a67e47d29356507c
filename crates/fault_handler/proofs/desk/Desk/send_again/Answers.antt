use Rattle.std.proofs.Common.{None}
use Rattle.fault_handler.specs.Transits.{going}
use Rattle.fault_handler.specs.Insides.{desk_of}
use Rattle.fault_handler.proofs.Fours.{put-same}
use Rattle.fault_handler.proofs.PageKeeps.{IsDesk-with_sent_again}
use Rattle.fault_handler.proofs.desk.Desk.send_again.Goals as goal

pub invariant_of-self : goal.invariant_of-self
invariant_of-self c =
    rw (c.send.ensures, put-same c.self.inside.pages.moving c.args.proc.number (going c.args.uid c.args.page) None (rw (← c.self.view_is) at c.requires))
    (IsDesk-with_sent_again (desk_of c.self.inside) c.args.uid c.args.page c.self.invariant)
