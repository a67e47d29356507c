use Rattle.std.proofs.Common.{sym}
use Rattle.uid_names.proofs.Finds.{found_at}
use Rattle.fault_handler.specs.Entries.{is_on}
use Rattle.fault_handler.proofs.entries.entry_of.Goals as goal

-- the first that passes is found
pub returns-then-is : goal.returns-then-is
returns-then-is c = sym (found_at (is_on c.args.uid) c.args.entries.now c.loop-entry.entry-index c.entry-item.result c.loop-entry.invariant c.loop-entry-test.true c.entry-item.is (sym c.if-is.ensures))
