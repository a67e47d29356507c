use Rattle.std.proofs.Common.{◌≡◌, ◌++◌, take, drop}
use Rattle.script_runs.specs.Processes.{procs_with}
use Rattle.script_runner.proofs.processes.place_of.Given as goal

abbrev pub invariant-loop-i : goal.invariant-loop-i
invariant-loop-i l = procs_with l.proc l.procs ≡ take l.i l.procs ++ procs_with l.proc (drop l.i l.procs)
