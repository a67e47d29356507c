use Rattle.std.proofs.Common.{◌≡◌, ◌∷◌, ◌++◌, ◌∙◌, sym, ap, subst, List}
use Rattle.std.specs.Prelude.{All}
use Rattle.std.proofs.lemmas.List.Elements.{All-cons, All-filter}
use Rattle.plain_store.specs.declared.maps.Mapped.{Mapped}
use Rattle.plain_store.specs.declared.maps.MapChange.TheVariants.{Mapping, Unmapping}
use Rattle.dom_history.specs.StoreEffects.{store_effect}
use Rattle.plain_store.specs.KeptMaps.{IsMapped, mappings_of, mappings_after}
use Rattle.plain_store.proofs.KeptMaps.{mapped-stays, mappings_of-cons, mappings_of-without}
use Rattle.plain_store.proofs.maps.MapTable.change.Goals as goal

pub returns-in-Ok : goal.returns-in-Ok
returns-in-Ok c = λ opening past objects held.
    let m = c.in-Mapping.mapped in
    let changes = c.in-Mapping.ensures in
    let items : c.insert.new.self.items ≡ m ∷ c.args.self.now.items.items = c.in-Ok.ensures.items in
    let after = store_effect c.args.deed.now.proc c.args.deed.now.op c.args.deed.now.reply ++ past in
    let all : All (IsMapped opening after) (m ∷ c.args.self.now.items.items) =
    (λ k d below. mapped-stays _ _ _ opening past _ (All-cons (IsMapped opening past) m c.args.self.now.items.items (changes.mapped opening past objects) held.mapped k d below)) in
    record {
      maps = λ p. ap (mappings_of p) items ∙ mappings_of-cons m c.args.self.now.items.items p ∙ ap (mappings_after (Mapping m) p) (held.maps p) ∙ sym (changes.maps p past);
      mapped = subst (λ (ms : List Mapped). All (IsMapped opening after) ms) (sym items) all;
    }

pub returns-in-Unmapping : goal.returns-in-Unmapping
returns-in-Unmapping c = λ opening past objects held.
    let q = c.in-Unmapping.p in
    let u = c.in-Unmapping.uid in
    let changes = c.in-Unmapping.ensures in
    let after = store_effect c.args.deed.now.proc c.args.deed.now.op c.args.deed.now.reply ++ past in
    let all : All (IsMapped opening after) c.args.self.now.items.items = (λ k d below. mapped-stays _ _ _ opening past _ (held.mapped k d below)) in
    record {
      maps = λ p. ap (mappings_of p) c.remove_mapping.ensures ∙ mappings_of-without q u c.args.self.now.items.items p ∙ ap (mappings_after (Unmapping q u) p) (held.maps p) ∙ sym (changes.maps p past);
      mapped = rw c.remove_mapping.ensures (All-filter _ (IsMapped opening after) c.args.self.now.items.items all);
    }

pub returns-in-Same : goal.returns-in-Same
returns-in-Same c = λ opening past objects held. record {
  maps = λ p. held.maps p ∙ sym (c.in-Same.ensures.maps p past);
  mapped = λ k d below. mapped-stays _ _ _ opening past _ (held.mapped k d below);
}
