use Rattle.std.proofs.Common.{◌≡◌, ◌+◌, Option, Some, IfSome, refl, ap, sym, subst, ◌∙◌, arith}
use Rattle.std.specs.Prelude.{slice_set}
use Rattle.std.proofs.lemmas.Result.{on_ok_weaker}
use Rattle.std.specs.Vec.{with_item}
use Rattle.uid_names.proofs.Somes.{take-some}
use Rattle.dom_history.specs.declared.event.Sent.{Sent}
use Rattle.dom_history.specs.Plans.{fate_of}
use Rattle.fault_handler.specs.Desks.{IsNode}
use Rattle.journal_check.specs.Links.{link_place, at_link}
use Rattle.journal_check.specs.Orders.{IsOrder}
use Rattle.journal_check.specs.Judged.{KeepsPlaces, sent_then}
use Rattle.journal_check.specs.declared.places.Places.{Places}
use Rattle.journal_check.proofs.LinkPlaces.{read-at}
use Rattle.journal_check.proofs.Placing.{send-keeps}
use Rattle.journal_check.proofs.places.Places.send.Goals as goal

pub returns-in-Some-clause-keeps : goal.returns-in-Some-clause-keeps
returns-in-Some-clause-keeps c = λ counts taken notice is next.
    let p = c.args.self.now in
    let from = c.args.from in
    let sent = c.in-Some.sent in
    let there : c.args.sent.now ≡ Some sent = c.in-Some.is in
    let receives = subst (λ (o : Option Sent). IfSome o (λ x. IsNode p.nodes x.to)) there c.requires.to in
    let number = subst (λ (o : Option Sent). IfSome o (λ x. x.index ≡ counts from x.to + 1)) there next.number in
    let place = c.link_of.ensures.value in
    let many = c.requires.whole in
    let low = c.link_of.ensures.within in
    let was = read-at p.orders.items c.link_of.result (link_place p.nodes from sent.to) c.index_mut.result.now (omega (arith, low, many)) c.index_mut.ensures.value place in
    let order = take-some (IsOrder (fate_of p.plan.now from sent.to) (counts from sent.to) (taken from sent.to)) (at_link p.nodes from sent.to p.orders.items) c.index_mut.result.now was (is.order from sent.to c.requires.from receives) in
    let after : Places = record { plan = p.plan; nodes = p.nodes; orders = with_item p.orders c.link_of.result c.send.new.self; notice = p.notice } in
    on_ok_weaker c.send.result (λ new.
    subst (λ (o : Option Sent). KeepsPlaces (sent_then counts from o) taken notice after) (sym there)
    (send-keeps p after counts taken notice from sent c.send.new.self c.requires.from receives is refl refl refl (ap (λ k. slice_set p.orders.items k c.send.new.self) place) next.few new))
    (c.send.ensures (fate_of p.plan.now from sent.to) (counts from sent.to) (taken from sent.to) order (ap (fate_of p.plan.now from sent.to) (sym number) ∙ sym c.fate-fate.ensures))
