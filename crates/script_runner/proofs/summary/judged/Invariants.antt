use Rattle.std.proofs.Common.{◌≡◌, take, map}
use Rattle.script_runs.specs.Summaries.{is_ok, all_answers}
use Rattle.script_runner.specs.Reports.{answers_in}
use Rattle.script_runner.proofs.summary.judged.Given as goal

abbrev pub invariant-loop-row : goal.invariant-loop-row
invariant-loop-row l = l.oks.items ≡ map is_ok (all_answers (map answers_in (take l.row-index l.rows)))
