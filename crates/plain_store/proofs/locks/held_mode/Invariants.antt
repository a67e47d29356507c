use Rattle.std.proofs.Common.{◌≡◌, drop}
use Rattle.dom_history.specs.Locks.{state_in}
use Rattle.plain_store.specs.KeptLocks.{lines_of}
use Rattle.plain_store.proofs.locks.held_mode.Given as goal

abbrev pub invariant-loop-row : goal.invariant-loop-row
invariant-loop-row l = state_in l.uid (lines_of l.p (drop l.row-index l.held)) ≡ state_in l.uid (lines_of l.p l.held)
