use Rattle.std.proofs.Common.{rules}
use Rattle.count_up.proofs.Seeing.{seen_more, seen_all}
use Rattle.count_up.proofs.runs.seen_by_all.Goals as goal

pub loop-counter-preserved : goal.loop-counter-preserved
loop-counter-preserved c =
    seen_more c.in-Some-seen.sum c.args.counters.now c.loop-counter.counter-index c.loop-counter-item.result c.loop-counter-test.true c.loop-counter.invariant c.loop-counter-item.is (search rules)

pub returns : goal.returns
returns c = seen_all c.in-Some-seen.sum c.args.counters.now c.loop-counter.counter-index c.loop-counter-test.false c.loop-counter.invariant
