use Rattle.std.proofs.Common.{◌≡◌, drop}
use Rattle.std.specs.Prelude.{find}
use Rattle.uid_names.specs.Rows.{is_in_conflict}
use Rattle.plain_store.proofs.locks.conflict_in.Given as goal

abbrev pub invariant-loop-row : goal.invariant-loop-row
invariant-loop-row l = find (is_in_conflict l.p l.uid l.mode) (drop l.row-index l.rows) ≡ find (is_in_conflict l.p l.uid l.mode) l.rows
