use Rattle.address_map.proofs.Changes.{mapping_of-without_mapping}
use Rattle.address_map.proofs.laws.an_end_leaves_the_others.Goals as goal

pub returns : goal.returns
returns c = mapping_of-without_mapping
