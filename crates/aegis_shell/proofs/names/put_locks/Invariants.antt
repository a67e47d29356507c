use Rattle.std.proofs.Common.{◌≡◌, ◌++◌, drop}
use Rattle.aegis_shell.specs.Outcomes.{lock_texts}
use Rattle.aegis_shell.proofs.names.put_locks.Given as goal

abbrev pub invariant-loop-row : goal.invariant-loop-row
invariant-loop-row l = l.text ++ lock_texts l.names (drop l.row-index l.rows) ≡ l.fn.text ++ lock_texts l.names l.rows
