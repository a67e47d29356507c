-- The programs that came so far are put.
use Rattle.std.proofs.Common.{◌≡◌, ◌++◌, map}
use Rattle.ended_nodes.specs.Ended.{with_name}
use Rattle.ended_nodes.proofs.put_programs.Given as goal

abbrev pub invariant-loop-program : goal.invariant-loop-program
invariant-loop-program g l = l.programs.items ≡ l.fn.programs.items ++ map (with_name l.node) l.yielded
