use Rattle.dom_history.proofs.Decisions.{decided_in_history, acts_apart}
use Rattle.dom_history.proofs.laws.homes_decide_in_order.Goals as goal

pub returns-clause-in_order : goal.returns-clause-in_order
returns-clause-in_order c = λ opening h legal i j before. decided_in_history opening h legal before.newer before.middle before.older i j before.stand

pub returns-clause-once : goal.returns-clause-once
returns-clause-once c = λ opening h legal a b before. acts_apart opening h legal before.newer before.middle before.older a b before.stand
