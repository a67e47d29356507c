use Rattle.std.proofs.Common.{ap, ◌∙◌}
use Rattle.node_core.specs.Nodes.{Noted}
use Rattle.node_core.proofs.node.Node.into_parts.Goals as goal

pub returns-clause-rising : goal.returns-clause-rising
returns-clause-rising g c whole =
    rw c.into_programs.ensures ((c.self.invariant (ap (λ (x : Noted g.row.P.Denot). x.spent) c.self.view_is ∙ whole)).rising)
