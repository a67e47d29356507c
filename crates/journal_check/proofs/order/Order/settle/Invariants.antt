-- What waits and what was taken early is matched so far.
use Rattle.std.proofs.Common.{◌≡◌, ℕ, List, length}
use Rattle.run_journals.specs.Matching.{Taken}
use Rattle.journal_check.specs.Orders.{IsHalfwayAs}
use Rattle.journal_check.proofs.order.Order.settle.Given as goal

abbrev pub invariant-loop-self : goal.invariant-loop-self
invariant-loop-self l = record {
  order : (delivered : List ℕ) (taken : List Taken) → IsHalfwayAs l.initial.self.fault delivered taken l.initial.self.waiting l.initial.self.early.items
      → IsHalfwayAs l.self.fault delivered taken l.self.waiting l.self.early.items;
  frames : l.self.waiting.frames ≡ l.initial.self.waiting.frames;
  later : l.self.waiting.later ≡ l.initial.self.waiting.later;
}

abbrev pub decreases-loop-self : goal.decreases-loop-self
decreases-loop-self l = length l.self.early.items
