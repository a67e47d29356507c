use Rattle.std.proofs.Common.{ap, ◌∙◌, arith}
use Rattle.aegis_shell.specs.States.{State}
use Rattle.aegis_shell.proofs.Turns.{passes-phase}
use Rattle.aegis_shell.proofs.progress.Progress.pass.Goals as goal

pub overflow_add-self : goal.overflow_add-self
overflow_add-self c =
    let facts = passes-phase c.args.work.now c.args.self.now c.requires c.jobs-jobs.ensures.ranges in
    omega (arith, facts.2, ap (λ (s : State). s.phase) c.self.view_is)

pub returns-clause-stage : goal.returns-clause-stage
returns-clause-stage c =
    let facts = passes-phase c.args.work.now c.args.self.now c.requires c.jobs-jobs.ensures.ranges in
    ap (λ (s : State). s.stage) c.self.view_is ∙ facts.1
