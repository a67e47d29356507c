use Rattle.std.proofs.Common.{◌≡◌, take}
use Rattle.aegis_shell.specs.Shells.{shell_answers}
use Rattle.script_runner.proofs.run.answers_of.Given as goal

abbrev pub invariant-loop-answer : goal.invariant-loop-answer
invariant-loop-answer l = l.answers ≡ take l.answer-index (shell_answers l.shell)
