use Rattle.std.proofs.Common.{◌≡◌, ◌-◌, ◌∙◌, None, Some, arith}
use Rattle.std.proofs.lemmas.List.{get_or_default}
use Rattle.fault_handler.specs.Desks.{task_of}
use Rattle.fault_handler.specs.Insides.{desk_of}
use Rattle.fault_handler.proofs.Replying.{open-allowed, open-there, loaded-open}
use Rattle.fault_handler.proofs.desk.Desk.loaded.Goals as goal

pub loaded-requires : goal.loaded-requires
loaded-requires c =
    let at : c.index_of.result ≡ c.args.proc.number - 1 = omega arith in
    let there : task_of (desk_of c.self.inside) c.args.proc.number ≡ Some c.in-Some.task = rw (← at) (get_or_default c.self.inside.tasks c.index_of.result None _ (omega arith) ∙ c.in-Some.is) in
    (open-allowed (desk_of c.self.inside) c.args.proc.number c.self.invariant c.kept.ensures.process (rw (← c.self.view_is) at c.requires) c.in-Some.task there).range.within

pub unreachable-requires : goal.unreachable-requires
unreachable-requires c =
    let at : c.index_of.result ≡ c.args.proc.number - 1 = omega arith in
    let there : task_of (desk_of c.self.inside) c.args.proc.number ≡ None = rw (← at) (get_or_default c.self.inside.tasks c.index_of.result None _ (omega arith) ∙ c.in-None.is) in
    open-there (desk_of c.self.inside) c.args.proc.number c.self.invariant c.kept.ensures.process (rw (← c.self.view_is) at c.requires) there

pub returns : goal.returns
returns c =
    let at : c.index_of.result ≡ c.args.proc.number - 1 = omega arith in
    let there : task_of (desk_of c.self.inside) c.args.proc.number ≡ Some c.in-Some.task = rw (← at) (get_or_default c.self.inside.tasks c.index_of.result None _ (omega arith) ∙ c.in-Some.is) in
    rw (← c.self.view_is)
    (loaded-open (desk_of c.self.inside) c.args.proc.number c.self.invariant c.kept.ensures.process c.loaded.result c.args.page.now c.in-Some.task there c.loaded.ensures)
