use Rattle.object_store.specs.Objects.{stamped, resized}
use Rattle.object_store.proofs.RowLemmas.{attr_at-with_change, attr_at-without_row}
use Rattle.object_store.proofs.HomeLemmas.{attr_at-after_make}
use Rattle.object_store.proofs.laws.changes_are_local.Goals as goal

pub returns : goal.returns
returns c = record {
  make = attr_at-after_make;
  remove = λ home counter q. attr_at-without_row counter q home.objects;
  page = λ home counter page q bytes. attr_at-with_change stamped counter q home.objects;
  length = λ home counter length q. attr_at-with_change (resized length) counter q home.objects;
}
