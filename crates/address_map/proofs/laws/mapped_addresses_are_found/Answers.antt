use Rattle.address_map.proofs.Changes.{mapping_at-found}
use Rattle.address_map.proofs.laws.mapped_addresses_are_found.Goals as goal

pub returns : goal.returns
returns c = λ mappings m address kept is covers. mapping_at-found address mappings m kept.apart is.0 is.1 is.2 covers
