use Rattle.std.proofs.Common.{Some, ap, ◌∙◌, sym, subst}
use Rattle.command_talks.specs.Ranges.{IsRanged}
use Rattle.aegis_shell.specs.States.{State}
use Rattle.aegis_shell.proofs.Hearing.{read_is, fits_here, goes_here, asks_here, ends_here}
use Rattle.aegis_shell.proofs.Turns.{told_within}
use Rattle.aegis_shell.proofs.progress.Progress.hear_reply.Goals as goal

pub next_job-job-requires : goal.next_job-job-requires
next_job-job-requires c = told_within c.args.work.now c.args.self.now (Some c.args.reply.now) c.requires

pub go-requires-clause-range : goal.go-requires-clause-range
go-requires-clause-range c = subst IsRanged (sym c.command-command.ensures) c.next_job-job.ensures.range

pub go-requires-clause-fits : goal.go-requires-clause-fits
go-requires-clause-fits c =
    let read = read_is {part = c.args.work.now} c.self.view_is c.next_job-job.ensures.value c.command-command.ensures c.object-object.ensures c.replace-stage.ensures.value in
    fits_here read c.args.reply.now c.requires

pub returns-in-Goes-clause-state : goal.returns-in-Goes-clause-state
returns-in-Goes-clause-state c =
    let read = read_is {part = c.args.work.now} c.self.view_is c.next_job-job.ensures.value c.command-command.ensures c.object-object.ensures c.replace-stage.ensures.value in
    goes_here read c.args.reply.now c.requires c.in_ok-stage.field-0 c.in-Goes.stage c.in-Goes.op c.in-Goes.is c.in_ok-stage.ensures.turn

pub returns-in-Goes-clause-next : goal.returns-in-Goes-clause-next
returns-in-Goes-clause-next c =
    let read = read_is {part = c.args.work.now} c.self.view_is c.next_job-job.ensures.value c.command-command.ensures c.object-object.ensures c.replace-stage.ensures.value in
    (asks_here read c.in_ok-stage.field-0 c.in-Goes.stage c.in-Goes.op c.in-Goes.is c.in_ok-stage.ensures.asks).0

pub returns-in-Goes-clause-range : goal.returns-in-Goes-clause-range
returns-in-Goes-clause-range c =
    let read = read_is {part = c.args.work.now} c.self.view_is c.next_job-job.ensures.value c.command-command.ensures c.object-object.ensures c.replace-stage.ensures.value in
    (asks_here read c.in_ok-stage.field-0 c.in-Goes.stage c.in-Goes.op c.in-Goes.is c.in_ok-stage.ensures.asks).1

pub returns-in_ok-finish-in-Comes-clause-state : goal.returns-in_ok-finish-in-Comes-clause-state
returns-in_ok-finish-in-Comes-clause-state c =
    let read = read_is {part = c.args.work.now} c.self.view_is c.next_job-job.ensures.value c.command-command.ensures c.object-object.ensures c.replace-stage.ensures.value in
    c.in_ok-finish-in-Comes.ensures ∙ ends_here read c.args.reply.now c.requires c.in_ok-stage.field-0 c.in-Comes.outcome c.in-Comes.is c.in_ok-stage.ensures.turn

pub returns-in_ok-finish-in-Comes-clause-next : goal.returns-in_ok-finish-in-Comes-clause-next
returns-in_ok-finish-in-Comes-clause-next c = ap (λ (s : State). s.stage) c.in_ok-finish-in-Comes.ensures
