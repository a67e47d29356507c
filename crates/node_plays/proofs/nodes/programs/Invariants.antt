use Rattle.node_plays.specs.Beginners.{AreBeginners}
use Rattle.node_plays.proofs.nodes.programs.Given as goal

-- the programs of the processes so far
abbrev pub invariant-loop-number : goal.invariant-loop-number
invariant-loop-number l = AreBeginners l.number l.programs.items
