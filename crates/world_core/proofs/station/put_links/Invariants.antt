-- What is put so far, and behind it what is left.
use Rattle.std.proofs.Common.{◌≡◌, ◌++◌, drop}
use Rattle.world_core.specs.Stations.{comings, oldest}
use Rattle.world_core.proofs.station.put_links.Given as goal

abbrev pub invariant-loop-i : goal.invariant-loop-i
invariant-loop-i g l = l.fn.list.items ++ comings l.node (oldest 0 l.ins) ≡ l.list.items ++ comings l.node (oldest l.i (drop l.i l.ins))
