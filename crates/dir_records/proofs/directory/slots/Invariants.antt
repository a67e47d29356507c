use Rattle.std.proofs.Common.{◌≡◌, drop, length}
use Rattle.dir_records.specs.Wholes.{in_front}
use Rattle.dir_records.specs.Directories.{slots_of}
use Rattle.dir_records.proofs.directory.slots.Given as goal

abbrev pub invariant-loop-record : goal.invariant-loop-record
invariant-loop-record l = record {
  -- the records so far, and those to come
  read : slots_of l.records ≡ in_front l.slots.items (slots_of (drop l.record-index l.records));
  count : length l.slots.items ≡ l.record-index;
}
