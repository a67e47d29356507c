-- The nodes of the stations that came so far.
use Rattle.std.proofs.Common.{◌≡◌, map}
use Rattle.world_core.proofs.world.World.end.Given as goal

abbrev pub invariant-loop-station : goal.invariant-loop-station
invariant-loop-station g l = l.nodes.items ≡ map (λ y. y.node) l.yielded
