-- The logs and programs of the nodes that came so far.
use Rattle.std.proofs.Common.{◌≡◌, map}
use Rattle.uid_names.specs.Names.{ProcName}
use Rattle.ended_nodes.specs.Ended.{named, program_at}
use Rattle.ended_nodes.proofs.take_apart.Given as goal

abbrev pub invariant-loop-node : goal.invariant-loop-node
invariant-loop-node g l =
    (l.logs.items ≡ map (λ x. x.log) l.yielded) × ((p : ProcName) → named l.programs.items p ≡ program_at l.yielded p)
