use Rattle.std.proofs.Common.{◌+◌, ◌∷◌, drop, sym, ap, ◌∙◌, arith}
use Rattle.std.proofs.lemmas.List.{drop_more, drop_all}
use Rattle.world_core.specs.declared.coming.Coming.{Coming}
use Rattle.world_core.specs.Before.{count_before}
use Rattle.world_core.proofs.Delivering.{count-start, count-step, count-stop}
use Rattle.world_core.proofs.station.count_before.Goals as goal

pub loop-i-init : goal.loop-i-init
loop-i-init c = (count-start c.args.at c.args.list.now, omega arith)

pub loop-i-preserved : goal.loop-i-preserved
loop-i-preserved c =
    let list = c.args.list.now in
    let i = c.loop-i.i in
    let x = c.index-list-i.result in
    let front = drop_more list i x c.loop-i-test.true ∙ ap (λ (y : Coming). y ∷ drop (i + 1) list) (sym c.index-list-i.is) in
    (count-step c.args.at list i x c.loop-i-test.true front (sym c.is_before.ensures ∙ c.if-not-is_before.false) c.loop-i.invariant.0, omega (arith, c.loop-i-test.true))

pub returns-then-not-is_before-clause-value : goal.returns-then-not-is_before-clause-value
returns-then-not-is_before-clause-value c =
    let list = c.args.list.now in
    let i = c.loop-i.i in
    let x = c.index-list-i.result in
    let front = drop_more list i x c.loop-i-test.true ∙ ap (λ (y : Coming). y ∷ drop (i + 1) list) (sym c.index-list-i.is) in
    sym (count-stop c.args.at list i x front (sym c.is_before.ensures ∙ c.if-not-is_before.true) c.loop-i.invariant.0)

pub returns-clause-value : goal.returns-clause-value
returns-clause-value c =
    let list = c.args.list.now in
    let i = c.loop-i.i in
    let none = ap (count_before c.args.at) (drop_all i list c.loop-i-test.false) in
    let so = c.loop-i.invariant.0 in
    let most = c.loop-i.invariant.1 in
    let past = c.loop-i-test.false in
    omega (arith, none, so, most, past)
