use Rattle.std.proofs.Common.{◌≡◌, ◌++◌, take, map}
use Rattle.script_runs.specs.Summaries.{is_ok}
use Rattle.script_runner.proofs.summary.judge.Given as goal

abbrev pub invariant-loop-answer : goal.invariant-loop-answer
invariant-loop-answer l = l.oks.items ≡ l.initial.oks.items ++ map is_ok (take l.answer-index l.answers)
