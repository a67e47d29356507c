use Rattle.std.proofs.Common.{◌-◌, ℕ, ap, refl}
use Rattle.std.specs.Prelude.{Some}
use Rattle.dom_history.specs.Mappings.{Target}
use Rattle.plain_store.proofs.KeptMaps.{find-at}
use Rattle.plain_store.proofs.maps.MapTable.target_of.Goals as goal

pub returns-in-Some-clause-named : goal.returns-in-Some-clause-named
returns-in-Some-clause-named c = λ opening past held.
    let found = rw c.deref.ensures.value at c.in-Some.ensures.covers in
    let at : ℕ → Target = λ low. record { uid = c.in-Some.mapped.uid; offset = c.in-Addr.address - low } in
    rw (c.in-Addr.is, ← held.maps c.args.p, find-at opening past c.args.p c.args.self.now.items.items c.in-Addr.address held.mapped, ← found) (ap (λ low. Some (at low)) c.low.ensures)

pub returns-in-None-clause-named : goal.returns-in-None-clause-named
returns-in-None-clause-named c = λ opening past held.
    let found = rw c.deref.ensures.value at c.in-None.ensures.covers in
    rw (c.in-Addr.is, ← held.maps c.args.p, find-at opening past c.args.p c.args.self.now.items.items c.in-Addr.address held.mapped, ← found) refl
