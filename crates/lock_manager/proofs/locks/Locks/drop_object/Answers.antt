use Rattle.std.proofs.Common.{◌≡◌, ap, rules}
use Rattle.std.specs.Prelude.{not, filter}
use Rattle.std.proofs.lemmas.Fn.{filter_same}
use Rattle.lock_manager.specs.declared.grants.Grant.{Grant}
use Rattle.lock_manager.specs.Grants.{is_on}
use Rattle.lock_manager.proofs.Keeps.{IsTable-without_grants_on}
use Rattle.lock_manager.proofs.locks.Locks.drop_object.Goals as goal

-- what is left is what is not on the object
left : (c : goal.After-retain) → c.retain.new.self.items ≡ filter (λ g. not (is_on c.args.uid g)) c.self.inside.grants.items
left c = filter_same _ (λ (g : Grant). not (is_on c.args.uid g)) _ (λ x b q called. search rules) _ _ c.retain.ensures.filtered

pub invariant_of-self : goal.invariant_of-self
invariant_of-self c =
    (rw (left c) (IsTable-without_grants_on c.args.uid (record { grants = c.self.inside.grants.items; last = c.self.inside.last }) c.self.invariant.0), rw c.retain.ensures.capacity c.self.invariant.1)

pub returns : goal.returns
returns c = rw (← c.self.view_is) (ap (λ grants. record { grants = grants; last = c.self.inside.last }) (left c))
