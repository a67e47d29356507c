use Rattle.std.proofs.Common.{◌≡◌, false, sym, rules}
use Rattle.std.specs.Prelude.{not, is_some}
use Rattle.std.proofs.lemmas.Fn.{filter_same}
use Rattle.address_map.specs.declared.mapping.Mapping.{Mapping}
use Rattle.address_map.specs.Mappings.{is_of, mapping_of, without_mapping}
use Rattle.uid_names.proofs.InOrder.{without-none}
use Rattle.address_map.proofs.Keeps.{IsLayout-without_mapping}
use Rattle.address_map.proofs.map.AddressMap.unmap.Goals as goal

-- what is left is what is of other objects
left : (c : goal.After-retain) → c.retain.new.self.items ≡ without_mapping c.args.uid c.self.inside.mappings.items
left c = filter_same _ (λ (m : Mapping). not (is_of c.args.uid m)) _ (λ x b q called. search rules) _ _ c.retain.ensures.filtered

pub returns-then-is_none-clause-unmapped : goal.returns-then-is_none-clause-unmapped
returns-then-is_none-clause-unmapped c =
    let none : is_some (mapping_of c.args.uid c.self.inside.mappings.items) ≡ false = rw (← c.deref.ensures.value, ← c.mapping_of.ensures) c.if-is_none.ensures in
    rw (← c.self.view_is) (sym (without-none (is_of c.args.uid) c.self.inside.mappings.items none))

pub invariant_of-self : goal.invariant_of-self
invariant_of-self c =
    (rw (left c) (IsLayout-without_mapping c.args.uid c.self.inside.mappings.items c.self.invariant.0), rw c.retain.ensures.capacity c.self.invariant.1)

pub returns-clause-unmapped : goal.returns-clause-unmapped
returns-clause-unmapped c = rw (← c.self.view_is) (left c)
