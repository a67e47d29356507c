use Rattle.std.proofs.Common.{length, ap, ◌∙◌, arith}
use Rattle.aegis_shell.specs.States.{State, behind}
use Rattle.aegis_shell.proofs.Hearing.{left_first, first_ranged}
use Rattle.aegis_shell.proofs.progress.Progress.next_job.Goals as goal

pub bounds-jobs-len : goal.bounds-jobs-len
bounds-jobs-len c =
    let is_at = ap (λ (s : State). s.answers) c.self.view_is in
    omega (arith, c.requires, ap length c.jobs.ensures.value, c.len.ensures, c.self.inside.answers.ok.0, ap length is_at)

pub returns-clause-value : goal.returns-clause-value
returns-clause-value c =
    let is_at = ap (λ (s : State). s.answers) c.self.view_is in
    let is = rw (c.jobs.ensures.value, c.len.ensures, c.self.inside.answers.ok.0, is_at) at c.index-jobs-len.is in
    left_first c.args.work.now c.args.self.now c.index-jobs-len.result c.requires is

pub returns-clause-range : goal.returns-clause-range
returns-clause-range c =
    let part = c.args.work.now in
    let at = c.args.self.now in
    let is_at = ap (λ (s : State). s.answers) c.self.view_is in
    let is = rw (c.jobs.ensures.value, c.len.ensures, c.self.inside.answers.ok.0, is_at) at c.index-jobs-len.is in
    first_ranged part at c.index-jobs-len.result (behind part at) (left_first part at c.index-jobs-len.result c.requires is) c.jobs.ensures.ranges
