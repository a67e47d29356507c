use Rattle.std.proofs.Common.{refl}
use Rattle.dom_history.specs.StoreEffects.{store_effects}
use Rattle.plain_store.proofs.MapReplies.{some-mapped, none-mapped}
use Rattle.plain_store.proofs.answer.unmap_reply.Goals as goal

pub returns-in-Some-clause-value : goal.returns-in-Some-clause-value
returns-in-Some-clause-value c = λ opening deeds held.
    let mapped = some-mapped _ _ (c.in-Some.ensures.mapped opening (store_effects deeds) held.maps) in
    rw mapped.1 refl

pub returns-in-None-clause-value : goal.returns-in-None-clause-value
returns-in-None-clause-value c = λ opening deeds held.
    let unmapped = none-mapped _ (c.in-None.ensures.mapped opening (store_effects deeds) held.maps) in
    rw unmapped refl
