-- The nodes that came so far got the mark.
use Rattle.std.proofs.Common.{◌≡◌}
use Rattle.world_core.proofs.Marked.{IsMarking}
use Rattle.world_core.proofs.world.World.send_marks.Given as goal

abbrev pub invariant-loop-i : goal.invariant-loop-i
invariant-loop-i g l =
    (l.self.plan ≡ l.fn.self.plan) × ((l.self.spent ≡ l.fn.self.spent) × IsMarking l.at l.phase l.tick l.fn.self.stations.items l.i l.self.stations.items)
