use Rattle.std.proofs.Common.{rules, ◌<◌, length, refl}
use Rattle.event_views.proofs.Parting.{ends-apart, same-more}
use Rattle.event_views.proofs.differing.parting.Goals as goal

pub loop-at-preserved : goal.loop-at-preserved
loop-at-preserved c =
    let within : c.loop-at.at < length c.args.second.now = search rules in
    same-more c.args.first.now c.args.second.now c.loop-at.at c.index-first-at.result c.in-Some.other.now c.loop-at-test.true c.index-first-at.is within c.in-Some.ensures.lookup.1 (c.if-not-is_same_event.ensures.0 refl) c.loop-at.invariant.1

pub returns-then-first-second : goal.returns-then-first-second
returns-then-first-second c =
    ends-apart c.args.first.now c.args.second.now c.loop-at.at c.loop-at-test.false c.loop-at.auto.at-end c.loop-at.invariant.1 c.if-first-second.true
