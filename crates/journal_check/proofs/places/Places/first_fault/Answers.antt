use Rattle.std.proofs.Common.{◌≤◌, List, length, map, ap, sym, subst, ◌∙◌}
use Rattle.std.proofs.Math.ListN.{drop_of_length-le}
use Rattle.journal_check.specs.Orders.{fault_in}
use Rattle.journal_check.specs.declared.order.Order.{Order}
use Rattle.journal_check.proofs.Leasts.{least_all, least-fault}
use Rattle.journal_check.proofs.places.Places.first_fault.Goals as goal

pub returns : goal.returns
returns c = λ es are.
    let p = c.args.self.now in
    let far = subst (λ (xs : List Order). length xs ≤ c.loop-order.order-index) c.deref-order-items.ensures.value c.loop-order-test.false in
    least-fault p.plan.now es p are c.loop-order.first
    (sym c.loop-order.invariant ∙ ap (λ (xs : List Order). least_all c.loop-order.first (map fault_in xs)) (drop_of_length-le p.orders.items far))
