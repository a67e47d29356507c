use Rattle.std.proofs.Common.{◌≡◌, ◌++◌, take}
use Rattle.script_runs.specs.Reports.{report_lines}
use Rattle.script_runner.proofs.report.put_lines.Given as goal

abbrev pub invariant-loop-i : goal.invariant-loop-i
invariant-loop-i l = l.to ≡ l.initial.to ++ report_lines l.process 1 (take l.i l.answers)
