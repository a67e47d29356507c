use Rattle.std.proofs.Common.{◌≡◌, drop}
use Rattle.std.specs.Prelude.{find, ◌&&◌}
use Rattle.uid_names.specs.Names.{same_proc}
use Rattle.uid_names.specs.Segments.{lies_in}
use Rattle.plain_store.specs.KeptMaps.{stretch_in}
use Rattle.plain_store.proofs.maps.mapping_at.Given as goal

abbrev pub invariant-loop-mapped : goal.invariant-loop-mapped
invariant-loop-mapped l = find (λ m. same_proc l.p m.proc && lies_in l.address (stretch_in m)) (drop l.mapped-index l.maps) ≡ find (λ m. same_proc l.p m.proc && lies_in l.address (stretch_in m)) l.maps
