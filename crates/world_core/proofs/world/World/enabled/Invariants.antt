-- The counts of the nodes that came so far.
use Rattle.std.proofs.Common.{◌≡◌, take}
use Rattle.std.specs.Prelude.{sum}
use Rattle.world_core.specs.Places.{enabled_counts}
use Rattle.world_core.proofs.world.World.enabled.Given as goal

abbrev pub invariant-loop-station : goal.invariant-loop-station
invariant-loop-station g l = l.count ≡ sum (take l.station-index (enabled_counts l.self.stations.items))
