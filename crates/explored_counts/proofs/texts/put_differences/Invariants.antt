use Rattle.std.proofs.Common.{◌≡◌, ◌++◌, take}
use Rattle.explored_counts.specs.Told.{difference_lines}
use Rattle.explored_counts.proofs.texts.put_differences.Given as goal

abbrev pub invariant-loop-difference : goal.invariant-loop-difference
invariant-loop-difference l = l.to ≡ l.initial.to ++ difference_lines l.names (take l.difference-index l.all)
