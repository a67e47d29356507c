use Rattle.std.proofs.Common.{◌≡◌, ◌++◌, drop}
use Rattle.std.specs.Prelude.{codes}
use Rattle.aegis_shell.specs.Outcomes.{row_texts}
use Rattle.aegis_shell.proofs.names.rows_text.Given as goal

abbrev pub invariant-loop-row : goal.invariant-loop-row
invariant-loop-row l = l.text ++ row_texts (drop l.row-index l.rows) ≡ codes "ok" ++ row_texts l.rows
