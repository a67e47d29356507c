use Rattle.dom_history.specs.StoreEffects.{store_effects}
use Rattle.plain_store.proofs.kept.Kept.reserve.Goals as goal

pub returns-in_err-reserve-clause-held : goal.returns-in_err-reserve-clause-held
returns-in_err-reserve-clause-held c = λ opening deeds held. record {
  objects = held.objects;
  locks = c.reserve.ensures.held deeds held.locks;
  maps = held.maps;
  bytes = held.bytes;
  lengths = held.lengths;
}

pub returns-in_err-reserve-2-clause-held : goal.returns-in_err-reserve-2-clause-held
returns-in_err-reserve-2-clause-held c = λ opening deeds held. record {
  objects = held.objects;
  locks = c.reserve.ensures.held deeds held.locks;
  maps = c.reserve-2.ensures.held opening (store_effects deeds) held.maps;
  bytes = held.bytes;
  lengths = held.lengths;
}

pub returns-in_err-reserve-3-clause-held : goal.returns-in_err-reserve-3-clause-held
returns-in_err-reserve-3-clause-held c = λ opening deeds held. record {
  objects = held.objects;
  locks = c.reserve.ensures.held deeds held.locks;
  maps = c.reserve-2.ensures.held opening (store_effects deeds) held.maps;
  bytes = held.bytes;
  lengths = c.reserve-3.ensures.held opening (store_effects deeds) held.lengths;
}

pub returns-in_err-reserve-4-clause-held : goal.returns-in_err-reserve-4-clause-held
returns-in_err-reserve-4-clause-held c = λ opening deeds held. record {
  objects = c.reserve-4.ensures.held opening (store_effects deeds) held.objects;
  locks = c.reserve.ensures.held deeds held.locks;
  maps = c.reserve-2.ensures.held opening (store_effects deeds) held.maps;
  bytes = held.bytes;
  lengths = c.reserve-3.ensures.held opening (store_effects deeds) held.lengths;
}

pub returns-clause-held : goal.returns-clause-held
returns-clause-held c = λ opening deeds held. record {
  objects = c.reserve-4.ensures.held opening (store_effects deeds) held.objects;
  locks = c.reserve.ensures.held deeds held.locks;
  maps = c.reserve-2.ensures.held opening (store_effects deeds) held.maps;
  bytes = held.bytes;
  lengths = c.reserve-3.ensures.held opening (store_effects deeds) held.lengths;
}
