use Rattle.std.proofs.Common.{◌≡◌, ◌≤◌, take, length}
use Rattle.plain_store.specs.KeptLocks.{lines_of}
use Rattle.plain_store.proofs.locks.count_held.Given as goal

abbrev pub invariant-loop-row : goal.invariant-loop-row
invariant-loop-row l = record {
  count : l.count ≡ length (lines_of l.p (take l.row-index l.held));
  bound : l.count ≤ l.row-index;
}
