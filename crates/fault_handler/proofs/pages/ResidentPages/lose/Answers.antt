use Rattle.std.proofs.Common.{◌≡◌, ◌-◌, None, arith}
use Rattle.fault_handler.proofs.Fours.{length-put}
use Rattle.fault_handler.proofs.Shown.{absent-unshown}
use Rattle.fault_handler.proofs.Marks.{marked-lost}
use Rattle.fault_handler.proofs.pages.ResidentPages.lose.Goals as goal

pub invariant_of-self : goal.invariant_of-self
invariant_of-self c =
    let at : c.index_of.result ≡ c.args.proc.number - 1 = omega arith in
    let asked = rw (← c.self.view_is) at c.requires in
    rw (at, c.unreserve.ensures)
    (record {
      four = length-put c.self.inside.moving c.args.proc.number None c.self.invariant.four;
      marked = marked-lost c.self.inside.moving c.self.inside.cache.pages c.self.invariant.marked c.args.proc.number c.args.uid c.args.page c.self.invariant.four (omega arith, omega arith)
          (absent-unshown c.self.inside.cache.pages c.args.uid c.args.page asked.absent) asked.moves;
    })
