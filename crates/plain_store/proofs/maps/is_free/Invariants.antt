use Rattle.std.proofs.Common.{◌≡◌, drop}
use Rattle.std.specs.List.{list_all}
use Rattle.uid_names.specs.Segments.{is_apart}
use Rattle.plain_store.specs.KeptMaps.{stretches_of}
use Rattle.plain_store.proofs.maps.is_free.Given as goal

abbrev pub invariant-loop-mapped : goal.invariant-loop-mapped
invariant-loop-mapped l = list_all (is_apart l.count l.first) (stretches_of l.p (drop l.mapped-index l.maps)) ≡ list_all (is_apart l.count l.first) (stretches_of l.p l.maps)
