use Rattle.std.proofs.Common.{◌+◌, List, take, refl, ap, sym, subst, arith}
use Rattle.std.specs.Prelude.{reverse}
use Rattle.std.proofs.lemmas.List.{take_all}
use Rattle.dom_history.specs.Events.{Happening}
use Rattle.journal_check.specs.Passing.{HaveHappened}
use Rattle.journal_check.proofs.Adding.{passed-none}
use Rattle.journal_check.proofs.Faults.{reverse-more, stopped-at}
use Rattle.journal_check.proofs.Passed.{next-before}
use Rattle.journal_check.proofs.verdict.happen.Goals as goal

pub overflow_add-line : goal.overflow_add-line
overflow_add-line g c =
    let line = c.loop-event.invariant.0 in
    let low = c.loop-event-test.true in
    let few = c.requires.few in
    omega (arith, line, low, few)

pub add-requires : goal.add-requires
add-requires g c =
    let r = c.requires.happened in
    let events = c.args.events.now in
    let i = c.loop-event.event-index in
    record {
      before = (
        r.0,
        r.1,
        reverse (take i events),
        next-before g.P.Program.wants g.P.Program.becomes r.0 r.1 events i (c.loop-event.line + 1) c.loop-event.pass c.loop-event.places (c.loop-event.invariant.1 r.0 r.1 r.2) (ap (λ k. k + 1) c.loop-event.invariant.0) c.loop-event-test.true c.requires.few,
      );
    }

pub loop-event-init : goal.loop-event-init
loop-event-init g c = (refl, λ made s first. first)

pub loop-event-preserved : goal.loop-event-preserved
loop-event-preserved g c =
    let events = c.args.events.now in
    let i = c.loop-event.event-index in (
      ap (λ k. k + 1) c.loop-event.invariant.0,
      λ made s first.
          subst (λ (xs : List Happening). HaveHappened g.P.Program.wants g.P.Program.becomes made s xs c.add.new.pass c.add.new.places)
          (sym (reverse-more events i c.event-item.result c.loop-event-test.true c.event-item.is))
          (c.in_ok-add.ensures made s (reverse (take i events))
          (next-before g.P.Program.wants g.P.Program.becomes made s events i (c.loop-event.line + 1) c.loop-event.pass c.loop-event.places (c.loop-event.invariant.1 made s first) (ap (λ k. k + 1) c.loop-event.invariant.0) c.loop-event-test.true c.requires.few)),
    )

pub returns-in_err-add : goal.returns-in_err-add
returns-in_err-add g c = λ made s.
    let events = c.args.events.now in
    let i = c.loop-event.event-index in
    passed-none g.P.Program.wants g.P.Program.becomes made s c.args.pass.now c.args.places.now c.add.new.pass c.add.new.places c.from_residual.result events c.in_err-add.field-0.0 c.from_residual.ensures.1 (λ first.
    stopped-at s events i (c.loop-event.line + 1) c.event-item.result c.loop-event-test.true c.event-item.is (ap (λ k. k + 1) c.loop-event.invariant.0) c.in_err-add.field-0.0
    (c.in_err-add.ensures made s (reverse (take i events))
    (next-before g.P.Program.wants g.P.Program.becomes made s events i (c.loop-event.line + 1) c.loop-event.pass c.loop-event.places (c.loop-event.invariant.1 made s first) (ap (λ k. k + 1) c.loop-event.invariant.0) c.loop-event-test.true c.requires.few)))

pub returns : goal.returns
returns g c = λ made s first.
    subst (λ (xs : List Happening). HaveHappened g.P.Program.wants g.P.Program.becomes made s (reverse xs) c.loop-event.pass c.loop-event.places) (take_all c.loop-event.event-index c.args.events.now c.loop-event-test.false)
    (c.loop-event.invariant.1 made s first)
