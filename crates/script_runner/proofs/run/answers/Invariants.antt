use Rattle.std.proofs.Common.{◌≡◌, take, map}
use Rattle.script_runner.specs.Reports.{answers_in}
use Rattle.script_runner.specs.Answered.{row_in}
use Rattle.script_runner.proofs.run.answers.Given as goal

abbrev pub invariant-loop-proc : goal.invariant-loop-proc
invariant-loop-proc l = map answers_in l.rows ≡ map (row_in l.shells) (take l.proc-index l.procs)
