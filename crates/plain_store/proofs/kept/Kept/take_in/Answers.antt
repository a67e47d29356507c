use Rattle.uid_names.proofs.Failures.{on-any-err}
use Rattle.dom_history.specs.StoreEffects.{store_effects}
use Rattle.plain_store.proofs.kept.Kept.take_in.Goals as goal

pub returns-in_err-write-clause-err : goal.returns-in_err-write-clause-err
returns-in_err-write-clause-err c = on-any-err c.from_residual.result (λ opening deeds held. record {
  objects = held.objects;
  locks = held.locks;
  maps = held.maps;
  bytes = c.in_err-write.ensures.bytes_stay opening (store_effects deeds) held.bytes;
  lengths = c.in_err-write.ensures.lengths_stay opening (store_effects deeds) held.lengths;
})

pub returns-clause-ok : goal.returns-clause-ok
returns-clause-ok c = λ opening deeds held. record {
  objects = c.change-3.ensures opening (store_effects deeds) held.objects;
  locks = c.change.ensures deeds held.locks;
  maps = c.change-2.ensures opening (store_effects deeds) held.objects held.maps;
  bytes = c.in_ok-write.ensures.bytes opening (store_effects deeds) held.maps held.bytes;
  lengths = c.in_ok-write.ensures.ends opening (store_effects deeds) held.maps held.lengths;
}
