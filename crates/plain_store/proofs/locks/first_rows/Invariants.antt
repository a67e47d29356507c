use Rattle.std.proofs.Common.{◌≡◌, take}
use Rattle.plain_store.proofs.locks.first_rows.Given as goal

abbrev pub invariant-loop-row : goal.invariant-loop-row
invariant-loop-row l = l.first ≡ take l.row-index l.head
