use Rattle.std.proofs.Common.{sym, subst, ap, ◌∙◌}
use Rattle.dom_history.specs.declared.event.What.TheVariants.{Ready}
use Rattle.node_runs.specs.Incomings.{enabled}
use Rattle.node_runs.specs.Incomings.Incoming.{Nothing}
use Rattle.node_core.specs.Machines.{inner_of}
use Rattle.node_core.specs.Nodes.{Stands, state_of}
use Rattle.node_core.proofs.Stepping.{enabled-there}
use Rattle.node_core.proofs.node.Node.ready.Goals as goal

pub returns-then-not-self-clause-stands : goal.returns-then-not-self-clause-stands
returns-then-not-self-clause-stands g c made given n stands =
    let old = c.self.inside in
    c.may_send_mark.ensures
    ∙ enabled-there g.P.Program.spent g.P.Program.wants g.P.Program.becomes made given (record { inner = inner_of old.machine; log = old.log; spent = old.spent }) n
    (subst (λ x. Stands g.P.Program.wants g.P.Program.becomes made given x n) (sym c.self.view_is) stands) (c.self.invariant c.if-not-self.true) (Ready old.machine.phase) Nothing
    ∙ ap (λ x. enabled given n (Ready (state_of x).phase) Nothing) c.self.view_is
