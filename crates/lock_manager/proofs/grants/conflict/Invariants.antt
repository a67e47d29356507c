use Rattle.std.proofs.Common.{◌≡◌, drop}
use Rattle.std.specs.Prelude.{find}
use Rattle.uid_names.specs.Rows.{conflicts}
use Rattle.lock_manager.proofs.grants.conflict.Given as goal

abbrev pub invariant-loop-grant : goal.invariant-loop-grant
invariant-loop-grant l = find (λ g. conflicts l.proc l.mode g.row) (drop l.grant-index l.grant-items) ≡ find (λ g. conflicts l.proc l.mode g.row) l.grant-items
