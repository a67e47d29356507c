use Rattle.std.proofs.Common.{◌<◌, ℕ, length, subst, ◌∙◌}
use Rattle.world_core.proofs.Finding.{len-items, count-here, left-on, place-behind}
use Rattle.world_core.proofs.world.World.find.Goals as goal

pub returns-then-left-enabled : goal.returns-then-left-enabled
returns-then-left-enabled g c = record {
  count = length c.station-item.result.enabled.items;
  node_is = count-here c.args.self.now.stations.items c.deref-station-items.result.now c.deref-station-items.ensures.value c.loop-i.i c.station-item.result c.loop-i-test.true c.station-item.is;
  own_is = subst (λ (n : ℕ). c.loop-i.left < n) (c.len-enabled.ensures ∙ len-items c.station-item.result) c.if-left-enabled.true;
  place_is = c.loop-i.invariant;
}

pub loop-i-preserved : goal.loop-i-preserved
loop-i-preserved g c =
    left-on c.args.self.now.stations.items c.deref-station-items.result.now c.deref-station-items.ensures.value c.loop-i.i c.station-item.result c.loop-i-test.true c.station-item.is
    c.loop-i.left c.len-enabled.result c.args.place c.loop-i.invariant (c.len-enabled.ensures ∙ len-items c.station-item.result) c.if-left-enabled.false

pub returns : goal.returns
returns g c = place-behind c.args.self.now.stations.items c.deref-station-items.result.now c.deref-station-items.ensures.value c.loop-i.i c.loop-i-test.false c.loop-i.left c.args.place c.loop-i.invariant
