use Rattle.std.proofs.Common.{◌≡◌, drop}
use Rattle.aegis_shell.specs.Work.{subject_in}
use Rattle.aegis_shell.proofs.work.subject.Given as goal

-- no row so far is of the process
abbrev pub invariant-loop-row : goal.invariant-loop-row
invariant-loop-row l = subject_in l.rows l.proc ≡ subject_in (drop l.row-index l.rows) l.proc
