use Rattle.std.proofs.Common.{◌≡◌, ◌≤◌, take, length}
use Rattle.plain_store.specs.KeptMaps.{mappings_of}
use Rattle.plain_store.proofs.maps.count_maps.Given as goal

abbrev pub invariant-loop-mapped : goal.invariant-loop-mapped
invariant-loop-mapped l = record {
  count : l.count ≡ length (mappings_of l.p (take l.mapped-index l.maps));
  bound : l.count ≤ l.mapped-index;
}
