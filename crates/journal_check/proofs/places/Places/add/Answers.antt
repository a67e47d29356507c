use Rattle.std.proofs.Common.{◌≡◌, ◌≤◌, ◌+◌, ◌*◌, List, Option, IfSome, ap, sym, subst, ◌∙◌, arith}
use Rattle.std.specs.Prelude.{◌∷◌, OnOk}
use Rattle.std.proofs.lemmas.Result.{on_ok_weaker}
use Rattle.uid_names.specs.declared.ids.Place.{Place}
use Rattle.uid_names.specs.declared.limits.TheConstants.{MAX_NODES}
use Rattle.dom_history.specs.declared.event.Effects.{Effects}
use Rattle.dom_history.specs.declared.event.Sent.{Sent}
use Rattle.dom_history.specs.declared.plan.FateRow.{FateRow}
use Rattle.run_journals.specs.Matching.{takes_with_lines}
use Rattle.run_journals.specs.Places.{sent_in}
use Rattle.journal_check.specs.Judged.{ArePlaces, stale_line}
use Rattle.journal_check.proofs.Placing.{add-from, frames-low}
use Rattle.journal_check.proofs.places.Places.add.Goals as goal

pub hear-requires-clause-few : goal.hear-requires-clause-few
hear-requires-clause-few c = let nodes = c.requires.places.1.few in nodes

pub send-requires-clause-few : goal.send-requires-clause-few
send-requires-clause-few c = subst (λ k. k ≤ MAX_NODES) (sym c.in_ok-hear.ensures.same.1) c.requires.places.1.few

pub send-requires-clause-whole : goal.send-requires-clause-whole
send-requires-clause-whole c = c.in_ok-hear.ensures.count ∙ (c.requires.places.1.keeps.count ∙ ap (λ k. k * k) (sym c.in_ok-hear.ensures.same.1))

pub send-requires-clause-keeps : goal.send-requires-clause-keeps
send-requires-clause-keeps c =
    let es = c.requires.places.0 in
    (_, _, _, c.in_ok-hear.ensures.keeps (sent_in es) (λ from to. takes_with_lines from to es) (stale_line c.args.self.now.plan.now es) c.requires.places.1.keeps)

pub returns : goal.returns
returns c = λ plan nodes es are is.
    let p = c.args.self.now in
    let e = c.args.event.now in
    let r = c.send.result in
    let after = c.send.new.self in
    let own = subst (λ k. ArePlaces p.plan.now k es p) (sym are.nodes_are) (subst (λ (f : List FateRow). ArePlaces f nodes es p) (sym are.plan_is) are) in
    let node_is = ap (λ (x : Place). x.node) c.place-node.ensures in
    let sent_is = ap (λ (x : Effects). x.sent) c.effects.ensures.value in
    let heard = c.in_ok-hear.ensures.keeps (sent_in es) (λ from to. takes_with_lines from to es) (stale_line p.plan.now es) own.keeps in
    let number = subst (λ (o : Option Sent). IfSome o (λ x. x.index ≡ sent_in es c.place-node.result.node x.to + 1)) (sym sent_is)
    (subst (λ n. IfSome e.effects.sent (λ x. x.index ≡ sent_in es n x.to + 1)) (sym node_is) is.numbers.0) in
    let plan_is = c.send.ensures.same.0 ∙ c.in_ok-hear.ensures.same.0 in
    let nodes_are = c.send.ensures.same.1 ∙ c.in_ok-hear.ensures.same.1 in
    subst (λ (f : List FateRow). OnOk r (ArePlaces f nodes (e ∷ es) after)) are.plan_is
    (subst (λ k. OnOk r (ArePlaces p.plan.now k (e ∷ es) after)) are.nodes_are
    (on_ok_weaker r
    (add-from p.plan.now p.nodes e es c.args.line c.args.again after (ap (λ x. x.now) plan_is) nodes_are own.few c.requires.named own.named is.line_is is.tells c.place-node.result.node c.what.result c.effects.result.now.sent node_is c.what.ensures.value
    sent_is)
    (c.send.ensures.keeps (sent_in es) _ _ heard (record { few = λ a b. let low = frames-low es a b in let few = is.few in omega (arith, low, few); number = number }))))
