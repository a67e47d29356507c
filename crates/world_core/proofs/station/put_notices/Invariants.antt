-- What is put so far, and behind it what is left.
use Rattle.std.proofs.Common.{◌≡◌, ◌++◌, drop}
use Rattle.world_core.specs.Stations.{comings, noticed}
use Rattle.world_core.proofs.station.put_notices.Given as goal

abbrev pub invariant-loop-i : goal.invariant-loop-i
invariant-loop-i g l = l.fn.list.items ++ comings l.node (noticed 0 l.notices) ≡ l.list.items ++ comings l.node (noticed l.i (drop l.i l.notices))
