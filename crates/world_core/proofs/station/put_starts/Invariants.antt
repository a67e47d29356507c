-- The events of the processes that came so far are put.
use Rattle.std.proofs.Common.{◌≡◌, ◌++◌, ◌≤◌}
use Rattle.world_core.specs.Stations.{comings}
use Rattle.world_core.proofs.Comings.{starts_up_to}
use Rattle.world_core.proofs.station.put_starts.Given as goal

abbrev pub invariant-loop-i : goal.invariant-loop-i
invariant-loop-i g l = (l.list.items ≡ l.fn.list.items ++ comings l.node (starts_up_to l.i)) × (l.i ≤ 4)
