use Rattle.event_charts.proofs.Slots.{slots-more}
use Rattle.event_charts.proofs.charts.by_slots.Goals as goal

pub loop-at-preserved : goal.loop-at-preserved
loop-at-preserved c =
    slots-more c.slot_count-slots.result c.loop-at.at c.loop-at.places c.put.new.self c.args.shown.now c.index-shown-at.result c.slot_taken.result c.loop-at.invariant c.loop-at-test.true
    c.index-shown-at.is c.slot_taken.ensures.value c.slot_taken.ensures.bound c.in_ok-put.ensures
