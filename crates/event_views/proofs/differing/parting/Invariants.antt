use Rattle.std.proofs.Common.{◌≡◌, ◌≤◌, take, length}
use Rattle.event_views.specs.Runs.{events_of}
use Rattle.event_views.proofs.differing.parting.Given as goal

abbrev pub invariant-loop-at : goal.invariant-loop-at
invariant-loop-at l = (l.at ≤ length l.second) × (take l.at (events_of l.first) ≡ take l.at (events_of l.second))
