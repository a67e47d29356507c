-- The open ones of those that came so far.
use Rattle.std.proofs.Common.{◌≡◌}
use Rattle.world_core.specs.Stations.{open_ones}
use Rattle.world_core.proofs.station.Station.drop_closed.Given as goal

abbrev pub invariant-loop-notice : goal.invariant-loop-notice
invariant-loop-notice g l = (l.self.node ≡ l.fn.self.node) × (l.self.ins ≡ l.fn.self.ins) × (l.self.notices.items ≡ open_ones l.fn.self.node l.yielded)
