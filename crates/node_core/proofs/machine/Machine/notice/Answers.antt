use Rattle.std.proofs.Common.{◌≡◌, [], refl, sym, subst}
use Rattle.std.proofs.lemmas.Result.{IfOk-weaker}
use Rattle.std.specs.Option.{ForSome}
use Rattle.dom_history.specs.declared.op.Op.{Op}
use Rattle.dom_history.specs.declared.op.Want.TheVariants.{Do}
use Rattle.uid_names.specs.declared.ids.Place.{Place}
use Rattle.fault_handler.specs.Accesses.{Accessed}
use Rattle.node_runs.specs.NodeStates.{Await, OpenOp}
use Rattle.node_runs.specs.Operations.{failed}
use Rattle.node_core.specs.Calls.{IsInCall}
use Rattle.node_core.specs.Processes.{IsWanted, want_at}
use Rattle.node_core.specs.Machines.{IsAtEvent}
use Rattle.node_core.specs.Outcomes.{Moves}
use Rattle.node_core.proofs.Opening.{range-open, call-open}
use Rattle.node_core.proofs.Noticing.{call-at, given-up-same, again-least, again-range, again-within, resent-led, gave_up-led}
use Rattle.node_core.proofs.machine.Machine.notice.Goals as goal

pub resends-requires-clause-number : goal.resends-requires-clause-number
resends-requires-clause-number g c =
    let old = c.args.self.now in
    let p = c.args.proc.number in
    let i = c.index_of.result in
    let d = c.index-self-index_of.result in
    let it = call-at g.P.Program.spent g.P.Program.wants old c.requires.before p i d c.index_of.ensures.bound c.index_of.ensures.value c.requires.called in
    let again = (rw c.in-Some.is at c.in_ok-again.ensures.again) it.began it.call it.kept in
    again-least g.P.Program.spent g.P.Program.wants g.P.Program.becomes old c.requires.before p c.index_of.ensures.process it.began it.call it.doing c.in-Some.again again.0

pub resends-requires-clause-range : goal.resends-requires-clause-range
resends-requires-clause-range g c =
    let old = c.args.self.now in
    let p = c.args.proc.number in
    let i = c.index_of.result in
    let d = c.index-self-index_of.result in
    let it = call-at g.P.Program.spent g.P.Program.wants old c.requires.before p i d c.index_of.ensures.bound c.index_of.ensures.value c.requires.called in
    let again = (rw c.in-Some.is at c.in_ok-again.ensures.again) it.began it.call it.kept in
    again-range g.P.Program.spent g.P.Program.wants g.P.Program.becomes old c.requires.before p c.index_of.ensures.process it.began it.call it.doing c.in-Some.again again.0

pub resends-requires-clause-within : goal.resends-requires-clause-within
resends-requires-clause-within g c =
    let old = c.args.self.now in
    let p = c.args.proc.number in
    let i = c.index_of.result in
    let d = c.index-self-index_of.result in
    let it = call-at g.P.Program.spent g.P.Program.wants old c.requires.before p i d c.index_of.ensures.bound c.index_of.ensures.value c.requires.called in
    let again = (rw c.in-Some.is at c.in_ok-again.ensures.again) it.began it.call it.kept in
    again-within g.P.Program.spent g.P.Program.wants g.P.Program.becomes old c.requires.before p c.index_of.ensures.process it.began it.call it.doing c.in-Some.again again.0

pub returns-in-Some : goal.returns-in-Some
returns-in-Some g c s comes =
    let old = c.args.self.now in
    let p = c.args.proc.number in
    let i = c.index_of.result in
    let d = c.index-self-index_of.result in
    let it = call-at g.P.Program.spent g.P.Program.wants old c.requires.before p i d c.index_of.ensures.bound c.index_of.ensures.value c.requires.called in
    let again = (rw c.in-Some.is at c.in_ok-again.ensures.again) it.began it.call it.kept in
    resent-led g.P.Program.spent g.P.Program.wants g.P.Program.becomes old c.requires.before p c.index_of.ensures.process it.began it.call it.doing i d c.notice.new.self c.resends.new.self c.resends.new.done c.in-Some.again []
    c.index_of.ensures.value c.index_of.ensures.bound c.notice.ensures.want again.2 again.0 again.1 c.resends.ensures s comes

pub gives_up-requires-clause-at : goal.gives_up-requires-clause-at
gives_up-requires-clause-at g c =
    let old = c.args.self.now in
    let p = c.args.proc.number in
    let i = c.index_of.result in
    let d = c.index-self-index_of.result in
    let it = call-at g.P.Program.spent g.P.Program.wants old c.requires.before p i d c.index_of.ensures.bound c.index_of.ensures.value c.requires.called in
    let e = given-up-same old p i d c.notice.new.self it (rw c.in-None.is at c.in_ok-again.ensures.none) in
    subst (λ ps. IsAtEvent g.P.Program.spent g.P.Program.wants (record old { procs = ps })) (sym e) c.requires.before.within

pub gives_up-requires-clause-wanted : goal.gives_up-requires-clause-wanted
gives_up-requires-clause-wanted g c =
    let old = c.args.self.now in
    let p = c.args.proc.number in
    let i = c.index_of.result in
    let d = c.index-self-index_of.result in
    let it = call-at g.P.Program.spent g.P.Program.wants old c.requires.before p i d c.index_of.ensures.bound c.index_of.ensures.value c.requires.called in
    let e = given-up-same old p i d c.notice.new.self it (rw c.in-None.is at c.in_ok-again.ensures.none) in
    let x : OpenOp = record { began = it.began; awaits = Await.Answer it.call } in
    subst (λ ps. IsWanted (want_at ps p)) (sym e) (range-open g.P.Program.spent g.P.Program.wants old c.requires.before p c.index_of.ensures.process x it.doing)

pub gives_up-requires-clause-call : goal.gives_up-requires-clause-call
gives_up-requires-clause-call g c =
    let old = c.args.self.now in
    let p = c.args.proc.number in
    let i = c.index_of.result in
    let d = c.index-self-index_of.result in
    let it = call-at g.P.Program.spent g.P.Program.wants old c.requires.before p i d c.index_of.ensures.bound c.index_of.ensures.value c.requires.called in
    let e = given-up-same old p i d c.notice.new.self it (rw c.in-None.is at c.in_ok-again.ensures.none) in
    let x : OpenOp = record { began = it.began; awaits = Await.Answer it.call } in
    subst (λ ps. (op : Op) → want_at ps p ≡ Do op → IsInCall old.desk p op) (sym e)
    (call-open g.P.Program.spent g.P.Program.wants old c.requires.before p c.index_of.ensures.process x it.doing it.call refl)

pub returns-in-None : goal.returns-in-None
returns-in-None g c =
    let old = c.args.self.now in
    let p = c.args.proc.number in
    let i = c.index_of.result in
    let d = c.index-self-index_of.result in
    let it = call-at g.P.Program.spent g.P.Program.wants old c.requires.before p i d c.index_of.ensures.bound c.index_of.ensures.value c.requires.called in
    let none = (rw c.in-None.is at c.in_ok-again.ensures.none) it.began it.call it.kept in
    let e = given-up-same old p i d c.notice.new.self it (rw c.in-None.is at c.in_ok-again.ensures.none) in
    IfOk-weaker c.gives_up.result _ _ (λ ok moves.
    gave_up-led g.P.Program.spent g.P.Program.wants g.P.Program.becomes old c.requires.before p c.index_of.ensures.process it.began it.call it.doing c.gives_up.new.self c.gives_up.new.done none.0
    (subst (λ ps. (begun : Place) (op : Op) → want_at ps p ≡ Do op → ForSome (failed old.desk p op) (λ m. Moves g.P.Program.spent g.P.Program.wants g.P.Program.becomes (record old { procs = ps }) c.gives_up.new.self c.gives_up.new.done p begun (Accessed.Settled m))) e moves))
    c.gives_up.ensures
