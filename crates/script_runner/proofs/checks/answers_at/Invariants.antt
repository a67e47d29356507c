use Rattle.std.proofs.Common.{◌≡◌, take, map}
use Rattle.script_runner.specs.Reports.{answers_in}
use Rattle.script_runner.specs.Checked.{row_at}
use Rattle.script_runner.proofs.checks.answers_at.Given as goal

abbrev pub invariant-loop-proc : goal.invariant-loop-proc
invariant-loop-proc l = map answers_in l.rows ≡ map (row_at l.nodes) (take l.proc-index l.procs)
