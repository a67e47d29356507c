use Rattle.std.proofs.Common.{ℕ, [], ◌∷◌, List, All, length, refl, ap, sym, subst, arith}
use Rattle.std.proofs.lemmas.List.{length-append}
use Rattle.std.proofs.lemmas.List.Elements.{All-append, All-cons, All-nil}
use Rattle.dom_history.specs.declared.plan.Fate.{Fate}
use Rattle.dom_history.specs.Plans.{fate_of}
use Rattle.world_runs.specs.NamedNodes.{NamesNodes}
use Rattle.journal_check.specs.Links.{link_place}
use Rattle.journal_check.specs.Orders.{IsOrder}
use Rattle.journal_check.specs.declared.order.Order.{Order}
use Rattle.journal_check.proofs.LinkPlaces.{all-get, some-more}
use Rattle.journal_check.proofs.places.Places.new.Goals as goal

abbrev IsFresh : Order → Type 0
IsFresh o = (fate : ℕ → Fate) → IsOrder fate 0 [] o

pub loop-link-preserved : goal.loop-link-preserved
loop-link-preserved c =
    let items = c.in_ok-push.ensures.items in
    let old = c.loop-link.orders.items in
    let many = length-append old (c.new.result ∷ []) in
    let was = c.loop-link.invariant.0 in
    let now = ap (λ (xs : List Order). length xs) items in
    (omega (arith, many, was, now), subst (All IsFresh) (sym items) (All-append IsFresh old (c.new.result ∷ []) c.loop-link.invariant.1 (All-cons IsFresh c.new.result [] c.new.ensures (All-nil IsFresh))))

pub returns : goal.returns
returns c =
    let many = c.loop-link.invariant.0 in
    let far = c.loop-link-test.false in
    let near = c.loop-link.auto._link-end in
    record {
      plan_is = refl;
      nodes_are = c.from-nodes.ensures;
      few = c.requires.few;
      named = All-nil (NamesNodes c.args.nodes);
      keeps = record {
        count = omega (arith, many, far, near);
        order = λ from to sends receives.
            some-more IsFresh (λ o. IsOrder (fate_of c.args.plan.now from to) 0 [] o) _ (λ o fresh. fresh (fate_of c.args.plan.now from to)) (all-get IsFresh c.loop-link.orders.items (link_place c.from-nodes.result from to) c.loop-link.invariant.1);
        few = λ from to. omega arith;
        notice_is = refl;
      };
    }
