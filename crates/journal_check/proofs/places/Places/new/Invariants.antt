-- The orders that were made so far.
use Rattle.std.proofs.Common.{◌≡◌, ℕ, [], length, All}
use Rattle.dom_history.specs.declared.plan.Fate.{Fate}
use Rattle.journal_check.specs.Orders.{IsOrder}
use Rattle.journal_check.proofs.places.Places.new.Given as goal

abbrev pub invariant-loop-link : goal.invariant-loop-link
invariant-loop-link l = (length l.orders.items ≡ l._link) × All (λ o. (fate : ℕ → Fate) → IsOrder fate 0 [] o) l.orders.items
