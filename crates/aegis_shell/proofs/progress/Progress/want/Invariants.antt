use Rattle.aegis_shell.proofs.Wanting.{IsBehind}
use Rattle.aegis_shell.proofs.progress.Progress.want.Given as goal

abbrev pub invariant-loop-job : goal.invariant-loop-job
invariant-loop-job l = IsBehind l.work l.fn.self l.self l.job-index
