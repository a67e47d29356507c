-- The counts of the nodes that came so far are passed.
use Rattle.std.proofs.Common.{◌≡◌, ◌+◌, take}
use Rattle.std.specs.Prelude.{sum}
use Rattle.world_core.specs.Places.{enabled_counts}
use Rattle.world_core.proofs.world.World.find.Given as goal

abbrev pub invariant-loop-i : goal.invariant-loop-i
invariant-loop-i g l = sum (take l.i (enabled_counts l.self.stations.items)) + l.left ≡ l.place
