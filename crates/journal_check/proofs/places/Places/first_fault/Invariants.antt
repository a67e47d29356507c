-- The least of the lines of the orders that came so far, and of the notice.
use Rattle.std.proofs.Common.{◌≡◌, map, drop}
use Rattle.journal_check.specs.Orders.{fault_in}
use Rattle.journal_check.proofs.Leasts.{least_all}
use Rattle.journal_check.proofs.places.Places.first_fault.Given as goal

abbrev pub invariant-loop-order : goal.invariant-loop-order
invariant-loop-order l = least_all l.first (map fault_in (drop l.order-index l.self.orders.items)) ≡ least_all l.self.notice (map fault_in l.self.orders.items)
