use Rattle.std.proofs.Common.{ap, sym, subst, ◌∙◌}
use Rattle.std.proofs.lemmas.Result.{IfOk-weaker}
use Rattle.std.specs.Option.{ForSome}
use Rattle.ring_messages.specs.Bodies.{is_request}
use Rattle.node_runs.specs.Doings.{takes}
use Rattle.node_runs.specs.Steps.{stepped_as_named}
use Rattle.node_core.specs.Machines.{given_of, state_of}
use Rattle.node_core.specs.Outcomes.{Led}
use Rattle.node_core.proofs.Hearing.{not-asked}
use Rattle.node_core.proofs.machine.Machine.take.Goals as goal

pub returns-else-is_request : goal.returns-else-is_request
returns-else-is_request g c =
    let old = c.args.self.now in
    let m = c.args.frame.now in
    let none = not-asked m.body (ap is_request (sym c.body.ensures.value) ∙ (sym c.is_request.ensures ∙ c.if-is_request.false)) in
    IfOk-weaker c.hears.result _ _ (λ ok heard. subst (λ a. ForSome (stepped_as_named (given_of old) (state_of old) (takes (state_of old) m a)) (λ s. Led g.P.Program.spent g.P.Program.wants g.P.Program.becomes old c.hears.new.self c.hears.new.done s)) (sym none) heard) c.hears.ensures
