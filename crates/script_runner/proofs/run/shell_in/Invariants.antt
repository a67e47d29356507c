use Rattle.std.proofs.Common.{◌≡◌, drop}
use Rattle.ended_nodes.specs.Ended.{named}
use Rattle.script_runner.proofs.run.shell_in.Given as goal

abbrev pub invariant-loop-other : goal.invariant-loop-other
invariant-loop-other l = named l.shells l.proc ≡ named (drop l.other-index l.shells) l.proc
