use Rattle.std.proofs.Common.{◌<◌, ap, sym, subst, arith}
use Rattle.command_talks.specs.Ranges.{IsRanged}
use Rattle.aegis_shell.specs.States.{State}
use Rattle.aegis_shell.proofs.Wanting.{none_behind, done_behind, next_is, waits_next, begun_is, goes_next, asks_next, ends_next}
use Rattle.aegis_shell.proofs.progress.Progress.want.Goals as goal

pub returns-then-self-phase-clause-state : goal.returns-then-self-phase-clause-state
returns-then-self-phase-clause-state c =
    let next = next_is c.loop-job.invariant c.left-job-items.ensures.value c.left-job-items.ensures.ranges c.loop-job-test.true c.job-item.is in
    let low : c.loop-job.self.phase < c.job-item.result.phase = omega (arith, c.if-self-phase.true, c.phase.ensures, ap (λ (s : State). s.phase) c.self-in-loop-job.view_is) in
    (waits_next next low).0

pub returns-then-self-phase-clause-want : goal.returns-then-self-phase-clause-want
returns-then-self-phase-clause-want c =
    let next = next_is c.loop-job.invariant c.left-job-items.ensures.value c.left-job-items.ensures.ranges c.loop-job-test.true c.job-item.is in
    let low : c.loop-job.self.phase < c.job-item.result.phase = omega (arith, c.if-self-phase.true, c.phase.ensures, ap (λ (s : State). s.phase) c.self-in-loop-job.view_is) in
    sym (waits_next next low).1

pub begin-requires : goal.begin-requires
begin-requires c =
    let next = next_is c.loop-job.invariant c.left-job-items.ensures.value c.left-job-items.ensures.ranges c.loop-job-test.true c.job-item.is in
    subst IsRanged (sym c.command-command.ensures) next.ranged

pub returns-in-Goes-clause-state : goal.returns-in-Goes-clause-state
returns-in-Goes-clause-state c =
    let next = next_is c.loop-job.invariant c.left-job-items.ensures.value c.left-job-items.ensures.ranges c.loop-job-test.true c.job-item.is in
    let begun = begun_is next c.self-in-loop-job.view_is c.command-command.ensures c.object-object.ensures (omega (arith, c.if-self-phase.false, c.phase.ensures)) c.in_ok-stage.ensures.turn in
    goes_next begun c.in-Goes.stage c.in-Goes.op c.in-Goes.is

pub returns-in-Goes-clause-want : goal.returns-in-Goes-clause-want
returns-in-Goes-clause-want c =
    let next = next_is c.loop-job.invariant c.left-job-items.ensures.value c.left-job-items.ensures.ranges c.loop-job-test.true c.job-item.is in
    let begun = begun_is next c.self-in-loop-job.view_is c.command-command.ensures c.object-object.ensures (omega (arith, c.if-self-phase.false, c.phase.ensures)) c.in_ok-stage.ensures.turn in
    sym (asks_next begun c.in-Goes.stage c.in-Goes.op c.in-Goes.is c.in_ok-stage.ensures.asks).0

pub returns-in-Goes-clause-range : goal.returns-in-Goes-clause-range
returns-in-Goes-clause-range c =
    let next = next_is c.loop-job.invariant c.left-job-items.ensures.value c.left-job-items.ensures.ranges c.loop-job-test.true c.job-item.is in
    let begun = begun_is next c.self-in-loop-job.view_is c.command-command.ensures c.object-object.ensures (omega (arith, c.if-self-phase.false, c.phase.ensures)) c.in_ok-stage.ensures.turn in
    (asks_next begun c.in-Goes.stage c.in-Goes.op c.in-Goes.is c.in_ok-stage.ensures.asks).1

pub loop-job-preserved : goal.loop-job-preserved
loop-job-preserved c =
    let next = next_is c.loop-job.invariant c.left-job-items.ensures.value c.left-job-items.ensures.ranges c.loop-job-test.true c.job-item.is in
    let begun = begun_is next c.self-in-loop-job.view_is c.command-command.ensures c.object-object.ensures (omega (arith, c.if-self-phase.false, c.phase.ensures)) c.in_ok-stage.ensures.turn in
    ends_next begun c.in-Comes.outcome c.finish.new.self c.in-Comes.is c.in_ok-finish-in-Comes.ensures

pub returns-clause-state : goal.returns-clause-state
returns-clause-state c = (done_behind c.loop-job.invariant c.left-job-items.ensures.value c.loop-job-test.false c.requires.within).0

pub returns-clause-want : goal.returns-clause-want
returns-clause-want c = sym (done_behind c.loop-job.invariant c.left-job-items.ensures.value c.loop-job-test.false c.requires.within).1

pub loop-job-init : goal.loop-job-init
loop-job-init c = none_behind _ _ c.requires.between
