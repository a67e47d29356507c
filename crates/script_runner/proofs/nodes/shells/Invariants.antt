use Rattle.std.proofs.Common.{◌≡◌, take}
use Rattle.script_runner.specs.Nodes.{shells_among}
use Rattle.script_runner.proofs.nodes.shells.Given as goal

abbrev pub invariant-loop-proc : goal.invariant-loop-proc
invariant-loop-proc l = l.shells.items ≡ shells_among l.script l.node (take l.proc-index l.procs)
