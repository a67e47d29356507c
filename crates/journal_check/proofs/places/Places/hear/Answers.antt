use Rattle.std.proofs.Common.{None, refl, ap, sym, subst, arith}
use Rattle.std.specs.Prelude.{slice_set}
use Rattle.std.proofs.lemmas.Result.{on_ok_weaker}
use Rattle.std.specs.Vec.{with_item}
use Rattle.uid_names.proofs.Somes.{take-some}
use Rattle.dom_history.specs.declared.event.What.{What}
use Rattle.dom_history.specs.declared.event.What.TheVariants.{Take}
use Rattle.dom_history.specs.Plans.{fate_of}
use Rattle.world_runs.specs.NamedNodes.{NamesNodesIn}
use Rattle.journal_check.specs.Links.{link_place, at_link}
use Rattle.journal_check.specs.Orders.{IsOrder}
use Rattle.journal_check.specs.Judged.{KeepsPlaces, least_of, line_if, tells_old, taken_then}
use Rattle.journal_check.specs.declared.places.Places.{Places}
use Rattle.journal_check.proofs.LinkPlaces.{read-at}
use Rattle.journal_check.proofs.Placing.{keeps-same, least-none, take-keeps}
use Rattle.journal_check.proofs.places.Places.hear.Goals as goal

pub returns-in-Take-clause-keeps : goal.returns-in-Take-clause-keeps
returns-in-Take-clause-keeps c = λ counts taken notice is.
    let p = c.args.self.now in
    let from = c.in-Take.from in
    let index = c.in-Take.index in
    let node = c.args.node in
    let sends = subst (λ (x : What). NamesNodesIn p.nodes x) c.in-Take.is c.requires.named in
    let place = c.link_of.ensures.value in
    let many = c.requires.whole in
    let low = c.link_of.ensures.within in
    let was = read-at p.orders.items c.link_of.result (link_place p.nodes from node) c.index_mut.result.now (omega (arith, low, many)) c.index_mut.ensures.value place in
    let order = take-some (IsOrder (fate_of p.plan.now from node) (counts from node) (taken from node)) (at_link p.nodes from node p.orders.items) c.index_mut.result.now was (is.order from node sends c.requires.node) in
    let after : Places = record { plan = p.plan; nodes = p.nodes; orders = with_item p.orders c.link_of.result c.take.new.self; notice = p.notice } in
    on_ok_weaker c.take.result (λ new.
    subst (λ (x : What). KeepsPlaces counts (taken_then taken c.args.line node x) (least_of notice (line_if (tells_old p.plan.now c.args.again x) c.args.line)) after) (sym c.in-Take.is)
    (keeps-same counts counts (taken_then taken c.args.line node (Take from index)) (taken_then taken c.args.line node (Take from index)) notice (least_of notice None) after (λ a b. refl) (λ a b. refl) (least-none notice)
    (take-keeps p after counts taken notice from node index c.args.line c.take.new.self sends c.requires.node is refl refl refl (ap (λ k. slice_set p.orders.items k c.take.new.self) place) new)))
    (c.take.ensures (fate_of p.plan.now from node) (counts from node) (taken from node) order)
