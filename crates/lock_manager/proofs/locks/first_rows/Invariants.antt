use Rattle.std.proofs.Common.{◌≡◌, take}
use Rattle.lock_manager.specs.Grants.{rows_of}
use Rattle.lock_manager.proofs.locks.first_rows.Given as goal

abbrev pub invariant-loop-grant : goal.invariant-loop-grant
invariant-loop-grant l = l.rows ≡ rows_of (take l.grant-index l.grant-items)
