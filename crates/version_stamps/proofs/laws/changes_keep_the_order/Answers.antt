use Rattle.uid_names.proofs.Tables.{AreRising-none, AreRising-with_row, AreRising-without_row}
use Rattle.version_stamps.specs.Stamps.{object_of}
use Rattle.version_stamps.proofs.laws.changes_keep_the_order.Goals as goal

pub returns : goal.returns
returns c = record {
  start = AreRising-none object_of;
  set = AreRising-with_row object_of;
  forgotten = AreRising-without_row object_of;
}
