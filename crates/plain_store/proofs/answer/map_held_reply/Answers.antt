use Rattle.std.proofs.Common.{sym, ap}
use Rattle.dom_history.specs.declared.op.Reply.TheVariants.{At}
use Rattle.std.specs.Prelude.{false}
use Rattle.dom_history.specs.StoreEffects.{store_effects}
use Rattle.plain_store.proofs.MapReplies.{some-mapped, none-mapped}
use Rattle.plain_store.proofs.answer.map_held_reply.Goals as goal

pub returns-in-Some-clause-value : goal.returns-in-Some-clause-value
returns-in-Some-clause-value c = λ opening deeds held.
    let mapped = some-mapped _ _ (c.in-Some.ensures.mapped opening (store_effects deeds) held.maps) in
    rw mapped.1 (ap (λ a. At a false) (sym mapped.2))

pub returns-in-None-clause-value : goal.returns-in-None-clause-value
returns-in-None-clause-value c = λ opening deeds held.
    let unmapped = none-mapped _ (c.in-None.ensures.mapped opening (store_effects deeds) held.maps) in
    rw unmapped (c.map_anew_reply.ensures.value opening deeds held)
