use Rattle.std.proofs.Common.{sym}
use Rattle.address_map.specs.Mappings.{lies_in}
use Rattle.uid_names.proofs.Finds.{found_at}
use Rattle.address_map.proofs.mapping.mapping_at.Goals as goal

-- the first that passes is found
pub returns-then-covers-clause-covers : goal.returns-then-covers-clause-covers
returns-then-covers-clause-covers c = sym (found_at (lies_in c.args.address) c.args.mappings.now c.loop-mapping.mapping-index c.mapping-item.result c.loop-mapping.invariant c.loop-mapping-test.true c.mapping-item.is (sym c.if-covers.ensures))
