use Rattle.std.proofs.Common.{◌≡◌, take}
use Rattle.script_runs.specs.Processes.{processes_of}
use Rattle.script_runner.specs.PutProcesses.{AreThere}
use Rattle.script_runner.proofs.processes.processes_in.Given as goal

abbrev pub invariant-loop-row : goal.invariant-loop-row
invariant-loop-row l = (l.procs.items ≡ processes_of (take l.row-index l.rows)) × AreThere l.procs.items l.table
