use Rattle.std.proofs.Common.{Err, List, sym, ap, subst, ◌∙◌}
use Rattle.dom_history.specs.Events.{Happening}
use Rattle.node_core.specs.declared.fault.RunFault.TheVariants as faults
use Rattle.world_core.specs.Stands.{IsRunOf}
use Rattle.world_core.proofs.OnOks.{same_fault}
use Rattle.world_core.proofs.world.World.run_turns.Goals as goal

pub returns-in_err-events-clause-limit : goal.returns-in_err-events-clause-limit
returns-in_err-events-clause-limit g c = λ n fails made s stands.
    (let same = same_fault c.from_residual.result c.in_err-events.field-0.0 (faults.TickLimit n) c.from_residual.ensures.1 fails in
    c.run_merged.ensures.limit n (c.in_err-events.was ∙ ap Err same) made s stands)

pub returns-clause-run : goal.returns-clause-run
returns-clause-run g c = λ made s stands.
    subst (λ (es : List Happening). IsRunOf g.P.Program.wants g.P.Program.becomes made s c.args.self.plan c.args.seed c.args.last_tick es c.in_ok-events.programs.items)
    (sym c.in_ok-to_list.ensures) (c.in_ok-events.ensures.run made s stands)
