use Rattle.std.proofs.Common.{ℕ, Some, sym, ap, ◌∙◌}
use Rattle.node_core.proofs.FirstPrograms.{first-program}
use Rattle.node_core.proofs.programs.program_of.Goals as goal

pub returns-in-Some : goal.returns-in-Some
returns-in-Some g c =
    let is = c.index-programs-i.is in
    ap (λ (e : ℕ × g.row.P.Denot). Some e.1) (sym is) ∙ sym (first-program c.args.programs.now c.args.proc c.in-Some.i c.index-programs-i.result c.in-Some.ensures.there c.in-Some.ensures.bound is)
