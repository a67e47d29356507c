use Rattle.std.proofs.Common.{◌∙◌}
use Rattle.world_core.proofs.Finding.{len-items, counted-on, counted-fits, counted-all}
use Rattle.world_core.proofs.world.World.enabled.Goals as goal

pub overflow_add-count : goal.overflow_add-count
overflow_add-count g c = record {
  fits =
      counted-fits c.args.self.now.stations.items c.deref-station-items.result.now c.deref-station-items.ensures.value c.loop-station.station-index c.station-item.result c.loop-station-test.true c.station-item.is
      c.loop-station.count c.len-count.result c.loop-station.invariant (c.len-count.ensures ∙ len-items c.station-item.result) c.requires;
}

pub loop-station-preserved : goal.loop-station-preserved
loop-station-preserved g c =
    counted-on c.args.self.now.stations.items c.deref-station-items.result.now c.deref-station-items.ensures.value c.loop-station.station-index c.station-item.result c.loop-station-test.true c.station-item.is
    c.loop-station.count c.len-count.result c.loop-station.invariant (c.len-count.ensures ∙ len-items c.station-item.result)

pub returns : goal.returns
returns g c =
    counted-all c.args.self.now.stations.items c.deref-station-items.result.now c.deref-station-items.ensures.value c.loop-station.station-index c.loop-station-test.false c.loop-station.count c.loop-station.invariant
