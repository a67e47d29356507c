use Rattle.std.proofs.Common.{◌≡◌, drop}
use Rattle.std.specs.Prelude.{find}
use Rattle.address_map.specs.Mappings.{lies_in}
use Rattle.address_map.proofs.mapping.mapping_at.Given as goal

abbrev pub invariant-loop-mapping : goal.invariant-loop-mapping
invariant-loop-mapping l = find (lies_in l.address) (drop l.mapping-index l.mappings) ≡ find (lies_in l.address) l.mappings
