use Rattle.std.proofs.Common.{take}
use Rattle.lane_charts.specs.Places.{AreKeyed}
use Rattle.event_charts.specs.LentViews.{lent_views}
use Rattle.event_charts.specs.Slots.{slot_of_taken}
use Rattle.event_charts.proofs.charts.by_slots.Given as goal

abbrev pub invariant-loop-at : goal.invariant-loop-at
invariant-loop-at l = AreKeyed (slot_of_taken l.slots) l.slots l.places (lent_views (take l.at l.shown))
