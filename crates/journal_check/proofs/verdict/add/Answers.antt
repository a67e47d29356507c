use Rattle.std.proofs.Common.{refl, ap}
use Rattle.uid_names.specs.declared.ids.Place.{Place}
use Rattle.script_runs.specs.Setups.{setup_of}
use Rattle.journal_check.proofs.Adding.{added-none, few-here, happened-next, named-there, next-event, no-none, no-other, none-of, own-places, shown-of}
use Rattle.journal_check.proofs.verdict.add.Goals as goal

pub step-requires : goal.step-requires
step-requires g c =
    let b = c.requires.before in
    record {
      stands = (b.0, setup_of b.1, b.3.happened.world, b.3.happened.stands, few-here g.P.Program.wants g.P.Program.becomes b.0 b.1 b.2 c.args.line c.args.pass.now c.args.places.now b.3 c.args.event.now);
    }

pub returns-in_default : goal.returns-in_default
returns-in_default g c = λ made s es before.
    let wants = g.P.Program.wants in
    let becomes = g.P.Program.becomes in
    let e = c.args.event.now in
    let few = few-here wants becomes made s es c.args.line c.args.pass.now c.args.places.now before e in
    let step = c.in_ok-shown.ensures made (setup_of s) before.happened.world before.happened.stands few in
    no-none wants becomes made s es c.args.line c.args.pass.now c.args.places.now before e c.step.new.self
    (none-of wants becomes made s es c.args.line c.args.pass.now c.args.places.now before e c.step.new.self c.place-node.result.node c.what.result (ap (λ (p : Place). p.node) c.place-node.ensures) c.what.ensures.value (rw c.in_default.is at step))

pub returns-then-not-is_same_event : goal.returns-then-not-is_same_event
returns-then-not-is_same_event g c = λ made s es before.
    let wants = g.P.Program.wants in
    let becomes = g.P.Program.becomes in
    let e = c.args.event.now in
    let few = few-here wants becomes made s es c.args.line c.args.pass.now c.args.places.now before e in
    let step = c.in_ok-shown.ensures made (setup_of s) before.happened.world before.happened.stands few in
    no-other wants becomes made s es c.args.line c.args.pass.now c.args.places.now before e c.step.new.self c.in-Some.shown
    (shown-of wants becomes made s es c.args.line c.args.pass.now c.args.places.now before e c.step.new.self c.place-node.result.node c.what.result c.in-Some.shown (ap (λ (p : Place). p.node) c.place-node.ensures) c.what.ensures.value (rw c.in-Some.is at step))
    (λ same. let no = c.if-not-is_same_event.ensures.1 same in absurd (cc))

pub add-requires-clause-named : goal.add-requires-clause-named
add-requires-clause-named g c =
    let wants = g.P.Program.wants in
    let becomes = g.P.Program.becomes in
    let b = c.requires.before in
    let e = c.args.event.now in
    let few = few-here wants becomes b.0 b.1 b.2 c.args.line c.args.pass.now c.args.places.now b.3 e in
    let step = c.in_ok-shown.ensures b.0 (setup_of b.1) b.3.happened.world b.3.happened.stands few in
    named-there wants becomes b.0 b.1 b.2 c.args.line c.args.pass.now c.args.places.now b.3 e c.step.new.self c.in-Some.shown
    (shown-of wants becomes b.0 b.1 b.2 c.args.line c.args.pass.now c.args.places.now b.3 e c.step.new.self c.place-node.result.node c.what.result c.in-Some.shown (ap (λ (p : Place). p.node) c.place-node.ensures) c.what.ensures.value (rw c.in-Some.is at step))
    (c.if-not-is_same_event.ensures.0 refl)

pub add-requires-clause-places : goal.add-requires-clause-places
add-requires-clause-places g c =
    let b = c.requires.before in
    (b.2, own-places g.P.Program.wants g.P.Program.becomes b.0 b.1 b.2 c.args.line c.args.pass.now c.args.places.now b.3 c.args.event.now)

pub returns : goal.returns
returns g c = λ made s es before.
    let wants = g.P.Program.wants in
    let becomes = g.P.Program.becomes in
    let e = c.args.event.now in
    let few = few-here wants becomes made s es c.args.line c.args.pass.now c.args.places.now before e in
    let step = c.in_ok-shown.ensures made (setup_of s) before.happened.world before.happened.stands few in
    let shown =
    shown-of wants becomes made s es c.args.line c.args.pass.now c.args.places.now before e c.step.new.self c.place-node.result.node c.what.result c.in-Some.shown (ap (λ (p : Place). p.node) c.place-node.ensures) c.what.ensures.value (rw c.in-Some.is at step) in
    let same = c.if-not-is_same_event.ensures.0 refl in
    happened-next wants becomes made s es c.args.line c.args.pass.now c.args.places.now before e c.step.new.self c.in-Some.shown shown same c.add.new.self
    (c.in_ok-add.ensures s.plan s.opening.nodes es before.happened.places_are (next-event wants becomes made s es c.args.line c.args.pass.now c.args.places.now before e c.step.new.self c.in-Some.shown shown same))

pub returns-in_err-shown : goal.returns-in_err-shown
returns-in_err-shown g c = λ made s.
    added-none g.P.Program.wants g.P.Program.becomes made s c.args.pass.now c.args.places.now c.step.new.self c.args.places.now c.from_residual.result c.args.event.now c.args.line c.from_residual.ensures.1

pub returns-in_err-add : goal.returns-in_err-add
returns-in_err-add g c = λ made s.
    added-none g.P.Program.wants g.P.Program.becomes made s c.args.pass.now c.args.places.now c.step.new.self c.add.new.self c.from_residual-in_err-add.result c.args.event.now c.args.line c.from_residual-in_err-add.ensures.1
