use Rattle.std.proofs.Common.{◌≡◌, ◌-◌, None, arith}
use Rattle.fault_handler.proofs.Fours.{length-put}
use Rattle.fault_handler.proofs.Shown.{absent-unshown}
use Rattle.fault_handler.proofs.Marks.{marked-arrived}
use Rattle.fault_handler.proofs.pages.ResidentPages.arrive.Goals as goal

pub install-requires-clause-absent : goal.install-requires-clause-absent
install-requires-clause-absent c = absent-unshown c.self.inside.cache.pages c.args.uid c.args.page (rw (← c.self.view_is) at c.requires.absent)

pub invariant_of-self-2 : goal.invariant_of-self-2
invariant_of-self-2 c =
    let at : c.index_of.result ≡ c.args.proc.number - 1 = omega arith in
    let asked = rw (← c.self.view_is) at c.requires in
    rw (at, c.in_ok-install.ensures.ok.1)
    (record {
      four = length-put c.self.inside.moving c.args.proc.number None c.self.invariant.four;
      marked = marked-arrived c.self.inside.moving c.self.inside.cache.pages c.self.invariant.marked c.args.proc.number c.args.uid c.args.page c.self.invariant.four (omega arith, omega arith) c.in_ok-install.ensures.ok.0 c.args.bytes.now
          (absent-unshown c.self.inside.cache.pages c.args.uid c.args.page asked.absent) asked.apart asked.moves;
    })
