use Rattle.std.proofs.Common.{◌≡◌, take, map}
use Rattle.script_runs.specs.Reports.{lines_of}
use Rattle.script_runner.specs.Reports.{answers_in}
use Rattle.script_runner.proofs.report.report.Given as goal

abbrev pub invariant-loop-row : goal.invariant-loop-row
invariant-loop-row l = l.text ≡ lines_of l.names (map answers_in (take l.row-index l.rows))
