use Rattle.std.proofs.Common.{ap, refl}
use Rattle.std.specs.Prelude.{Some}
use Rattle.uid_names.specs.Names.{same_uid}
use Rattle.plain_store.proofs.KeptMaps.{find-mapping}
use Rattle.plain_store.proofs.maps.MapTable.address_of.Goals as goal

pub returns-in-Some-clause-mapped : goal.returns-in-Some-clause-mapped
returns-in-Some-clause-mapped c = λ opening past held.
    let found = rw c.deref.ensures.value at c.in-Some.ensures in
    rw (← held.maps c.args.p, find-mapping (λ m. same_uid c.args.uid m.uid) c.args.p c.args.self.now.items.items, ← found) (ap Some c.low.ensures)

pub returns-in-None-clause-mapped : goal.returns-in-None-clause-mapped
returns-in-None-clause-mapped c = λ opening past held.
    let found = rw c.deref.ensures.value at c.in-None.ensures in
    rw (← held.maps c.args.p, find-mapping (λ m. same_uid c.args.uid m.uid) c.args.p c.args.self.now.items.items, ← found) refl
