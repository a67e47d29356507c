use Rattle.std.proofs.Common.{◌≡◌, Option, IfSome, false, sym, ap, subst, ◌∙◌}
use Rattle.node_core.specs.Machines.{inner_of}
use Rattle.node_core.specs.Nodes.{Noted}
use Rattle.node_core.specs.Programs.{program_in}
use Rattle.node_core.proofs.Stepping.{program-lives}
use Rattle.node_core.proofs.node.Node.program.Goals as goal

pub returns-clause-live : goal.returns-clause-live
returns-clause-live g c whole =
    let m = c.self.inside.machine in
    let kept = c.self.invariant (ap (λ (x : Noted g.row.P.Denot). x.spent) c.self.view_is ∙ whole) in
    subst (λ (o : Option g.row.P.Denot). IfSome o (λ y. g.P.Program.spent y ≡ false))
    (sym (c.program_of.ensures ∙ ap (λ es. program_in es c.args.proc) c.as_slice.ensures.value))
    (program-lives g.P.Program.spent g.P.Program.wants (inner_of m) kept c.args.proc)
