use Rattle.std.proofs.Common.{◌≡◌}
use Rattle.script_maker.specs.Walk.Begun.{objects_begun}
use Rattle.script_maker.proofs.generator.declare_objects.Given as goal

abbrev pub invariant-loop-at : goal.invariant-loop-at
invariant-loop-at l = l.draft ≡ objects_begun l.at
