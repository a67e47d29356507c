use Rattle.std.proofs.Common.{sym, ◌∙◌}
use Rattle.ring_messages.proofs.Rising.{rises_on, falls, rise_all}
use Rattle.ring_messages.proofs.reading.rows.rise.Goals as goal

pub loop-i-preserved : goal.loop-i-preserved
loop-i-preserved c = rises_on c.args.rows.now c.loop-i.i c.index-rows-i-in-loop-i.result c.index-rows-i.result c.loop-i.auto.i c.loop-i-test.true c.index-rows-i-in-loop-i.is c.index-rows-i.is (sym c.is_before.ensures ∙ c.if-not-is_before.false) c.loop-i.invariant

pub returns-then-not-is_before : goal.returns-then-not-is_before
returns-then-not-is_before c = sym (falls c.args.rows.now c.loop-i.i c.index-rows-i-in-loop-i.result c.index-rows-i.result c.loop-i.auto.i c.loop-i-test.true c.index-rows-i-in-loop-i.is c.index-rows-i.is (sym c.is_before.ensures ∙ c.if-not-is_before.true) c.loop-i.invariant)

pub returns : goal.returns
returns c = sym (rise_all c.args.rows.now c.loop-i.i c.loop-i.auto.i c.loop-i-test.false c.loop-i.invariant)
