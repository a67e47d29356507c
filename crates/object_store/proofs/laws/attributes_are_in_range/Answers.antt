use Rattle.object_store.proofs.HomeLemmas.{IsAttr-attr_of}
use Rattle.object_store.proofs.laws.attributes_are_in_range.Goals as goal

pub returns : goal.returns
returns c = IsAttr-attr_of
