use Rattle.std.proofs.Common.{◌≡◌, take}
use Rattle.uid_names.specs.Rows.{rows_after}
use Rattle.plain_store.specs.KeptLocks.{rows_of}
use Rattle.plain_store.proofs.locks.rows_behind.Given as goal

abbrev pub invariant-loop-row : goal.invariant-loop-row
invariant-loop-row l = l.listed.items ≡ rows_after l.after (rows_of l.home (take l.row-index l.rows))
