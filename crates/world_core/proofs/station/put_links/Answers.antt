use Rattle.std.proofs.Common.{List, sym, ap}
use Rattle.std.proofs.lemmas.List.{drop_all}
use Rattle.world_core.specs.declared.station.LinkFrom.{LinkFrom}
use Rattle.world_core.specs.Stations.{comings, oldest, oldest_of}
use Rattle.world_core.proofs.Comings.{oldest_step, go_on, at_end}
use Rattle.world_core.proofs.station.put_links.Goals as goal

pub loop-i-preserved : goal.loop-i-preserved
loop-i-preserved g c =
    let node = c.args.node.now in
    let ins = c.args.ins.now in
    let i = c.loop-i.i in
    let link = c.index-ins-i.result in
    go_on _ c.loop-i.list.items c.put_oldest.new.list.items (comings node (oldest_of i link.from link.link.queue)) _ _
    c.loop-i.invariant (oldest_step node ins i link c.loop-i-test.true (sym c.index-ins-i.is)) c.in_ok-put_oldest.ensures

pub returns : goal.returns
returns g c =
    let node = c.args.node.now in
    at_end _ c.loop-i.list.items _ c.loop-i.invariant (ap (λ (ls : List LinkFrom). comings node (oldest c.loop-i.i ls)) (drop_all c.loop-i.i c.args.ins.now c.loop-i-test.false))
