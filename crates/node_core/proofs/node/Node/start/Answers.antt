use Rattle.std.proofs.Common.{sym, subst, ◌∙◌}
use Rattle.std.proofs.lemmas.List.Elements.{filter_agree}
use Rattle.node_runs.specs.Incomings.{enabled}
use Rattle.node_runs.specs.Incomings.Incoming.{Nothing}
use Rattle.node_core.specs.Machines.{inner_of, given_of, state_of}
use Rattle.node_core.specs.Nodes.{Stands}
use Rattle.node_core.specs.Starts.{starts_of}
use Rattle.node_core.proofs.Stepping.{enabled-there}
use Rattle.node_core.proofs.node.Node.start.Goals as goal

pub returns-clause-stands : goal.returns-clause-stands
returns-clause-stands g c made given n stands =
    let old = c.self.inside in
    c.start.ensures
    ∙ filter_agree (λ what. enabled (given_of old.machine) (state_of old.machine) what Nothing) (λ what. enabled given n what Nothing)
    (λ what. enabled-there g.P.Program.spent g.P.Program.wants g.P.Program.becomes made given (record { inner = inner_of old.machine; log = old.log; spent = old.spent }) n
    (subst (λ x. Stands g.P.Program.wants g.P.Program.becomes made given x n) (sym c.self.view_is) stands) (c.self.invariant c.if-self.false) what Nothing)
    (starts_of c.args.proc)
