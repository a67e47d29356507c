use Rattle.std.proofs.Common.{◌≡◌, take}
use Rattle.event_charts.proofs.charts.lanes_of.Given as goal

abbrev pub invariant-loop-name : goal.invariant-loop-name
invariant-loop-name l = l.lanes ≡ take l.name-index l.names
