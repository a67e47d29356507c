use Rattle.std.proofs.Common.{◌≡◌}
use Rattle.script_maker.specs.Walk.Begun.{nodes_begun}
use Rattle.script_maker.proofs.generator.declare_nodes.Given as goal

abbrev pub invariant-loop-at : goal.invariant-loop-at
invariant-loop-at l = l.draft ≡ nodes_begun l.at
