use Rattle.std.proofs.Common.{◌≡◌, drop}
use Rattle.std.specs.Prelude.{find}
use Rattle.address_map.specs.Mappings.{is_of}
use Rattle.address_map.proofs.mapping.mapping_of.Given as goal

abbrev pub invariant-loop-mapping : goal.invariant-loop-mapping
invariant-loop-mapping l = find (is_of l.uid) (drop l.mapping-index l.mappings) ≡ find (is_of l.uid) l.mappings
