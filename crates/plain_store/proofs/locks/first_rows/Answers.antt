use Rattle.std.proofs.Common.{◌∙◌}
use Rattle.plain_store.proofs.KeptLocks.{take-min}
use Rattle.plain_store.proofs.locks.first_rows.Goals as goal

pub returns-clause-rows : goal.returns-clause-rows
returns-clause-rows c = c.loop-row.invariant ∙ take-min c.args.rows.now 64 c.min.result c.loop-row.row-index c.min.ensures c.loop-row-test.false
