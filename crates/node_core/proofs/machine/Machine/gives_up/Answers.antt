use Rattle.std.proofs.Common.{sym, subst, refl}
use Rattle.std.proofs.lemmas.Result.{IfOk-weaker}
use Rattle.fault_handler.specs.Outcomes.{Turn, ended}
use Rattle.fault_handler.specs.Accesses.{Accessed}
use Rattle.node_core.specs.Outcomes.{Turns, Moves}
use Rattle.node_core.proofs.Turning.{moves-settled}
use Rattle.node_core.proofs.machine.Machine.gives_up.Goals as goal

pub returns : goal.returns
returns g c =
    let old = c.args.self.now in
    let p = c.args.proc.number in
    let d = c.failed_wanted-reply.new.desk in
    let reply = c.failed_wanted-reply.result in
    IfOk-weaker c.ends.result _ _ (λ ok turns begun op want m fails.
    subst (λ x. Moves g.P.Program.spent g.P.Program.wants g.P.Program.becomes old c.ends.new.self c.ends.new.done p begun (Accessed.Settled x)) (sym (c.failed_wanted-reply.ensures.outcome op want m fails))
    (moves-settled g.P.Program.spent g.P.Program.wants g.P.Program.becomes old c.ends.new.self c.ends.new.done p begun d (ended d reply) refl c.failed_wanted-reply.ensures.node
    (subst (Turns g.P.Program.spent g.P.Program.wants g.P.Program.becomes (record old { desk = d }) c.ends.new.self c.ends.new.done p begun (Turn.Ends reply)) c.new.ensures (turns begun)))) c.ends.ensures
