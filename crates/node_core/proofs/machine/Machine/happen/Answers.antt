use Rattle.std.proofs.Common.{◌≡◌, ◌+◌, subst, arith}
use Rattle.std.specs.Prelude.{max}
use Rattle.std.proofs.lemmas.Result.{IfOk-weaker}
use Rattle.std.specs.Option.{ForSome}
use Rattle.uid_names.specs.Steps.{◌>>=◌}
use Rattle.node_runs.specs.Incomings.{tick_of}
use Rattle.node_runs.specs.Doings.{event_of}
use Rattle.node_runs.specs.Steps.{stepped_as_named}
use Rattle.node_runs.proofs.Happening.{enabled-happens}
use Rattle.node_core.specs.Receivings.{seen}
use Rattle.node_core.specs.Machines.{given_of, state_of, IsKept}
use Rattle.node_core.specs.Outcomes.{Led}
use Rattle.node_core.proofs.Keeping.{before-event, kept-after, effects-after, on-ok}
use Rattle.node_core.proofs.machine.Machine.happen.Goals as goal

pub does-requires-clause-before : goal.does-requires-clause-before
does-requires-clause-before g c =
    before-event g.P.Program.spent g.P.Program.wants c.args.self.now c.requires.kept (c.max.result + 1) (omega arith) (omega arith)

pub returns-clause-happens : goal.returns-clause-happens
returns-clause-happens g c =
    let m = c.args.self.now in
    let inc = seen c.args.incoming.now in
    let at : c.max.result + 1 ≡ max m.tick (tick_of inc) + 1 = omega arith in
    IfOk-weaker c.does.result _ _ (λ ok does. subst (λ t. ForSome (event_of (given_of m) (record (state_of m) { tick = t }) c.args.what.now inc >>= stepped_as_named (given_of m) (record (state_of m) { tick = t })) (λ s. Led g.P.Program.spent g.P.Program.wants g.P.Program.becomes m c.does.new.self c.does.new.done s)) at does) c.does.ensures.does

pub returns-clause-kept : goal.returns-clause-kept
returns-clause-kept g c =
    let m = c.args.self.now in
    let inc = seen c.args.incoming.now in
    let found = enabled-happens (given_of m) (state_of m) c.args.what.now inc c.requires.kept.given c.requires.kept.node c.requires.frame c.requires.enabled in
    on-ok c.does.result (IsKept g.P.Program.spent g.P.Program.wants c.does.new.self)
    (IfOk-weaker c.does.result _ _ (λ ok happens. kept-after g.P.Program.spent g.P.Program.wants m c.requires.kept g.P.Program.becomes c.does.new.self c.does.new.done found.0 c.args.what.now inc c.requires.frame (happens found.0 found.1) found.2)
    (returns-clause-happens g c))

pub returns-clause-effects : goal.returns-clause-effects
returns-clause-effects g c =
    let m = c.args.self.now in
    let inc = seen c.args.incoming.now in
    let found = enabled-happens (given_of m) (state_of m) c.args.what.now inc c.requires.kept.given c.requires.kept.node c.requires.frame c.requires.enabled in
    IfOk-weaker c.does.result _ _ (λ ok happens. effects-after g.P.Program.spent g.P.Program.wants m c.requires.kept g.P.Program.becomes c.does.new.self c.does.new.done found.0 c.args.what.now inc c.requires.frame (happens found.0 found.1) found.2)
    (returns-clause-happens g c)
