use Rattle.std.proofs.Common.{sym}
use Rattle.address_map.specs.Mappings.{is_of}
use Rattle.uid_names.proofs.Finds.{found_at}
use Rattle.address_map.proofs.mapping.mapping_of.Goals as goal

-- the first that passes is found
pub returns-then-is : goal.returns-then-is
returns-then-is c = sym (found_at (is_of c.args.uid) c.args.mappings.now c.loop-mapping.mapping-index c.mapping-item.result c.loop-mapping.invariant c.loop-mapping-test.true c.mapping-item.is (sym c.if-is.ensures))
