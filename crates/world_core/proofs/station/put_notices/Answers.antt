use Rattle.std.proofs.Common.{List, [], ◌∷◌, sym, ap}
use Rattle.std.proofs.lemmas.List.{drop_all}
use Rattle.ring_links.specs.declared.notice.Notice.{Notice}
use Rattle.world_core.specs.Stations.{comings, notice_at, noticed}
use Rattle.world_core.proofs.Comings.{noticed_step, go_on, at_end}
use Rattle.world_core.proofs.station.put_notices.Goals as goal

pub loop-i-preserved : goal.loop-i-preserved
loop-i-preserved g c =
    let node = c.args.node.now in
    let notices = c.args.notices.now in
    let i = c.loop-i.i in
    let x = c.index-notices-i.result in
    go_on _ c.loop-i.list.items c.put_notice.new.list.items (comings node (notice_at i x ∷ [])) _ _
    c.loop-i.invariant (noticed_step node notices i x c.loop-i-test.true (sym c.index-notices-i.is)) c.in_ok-put_notice.ensures

pub returns : goal.returns
returns g c =
    let node = c.args.node.now in
    at_end _ c.loop-i.list.items _ c.loop-i.invariant (ap (λ (xs : List Notice). comings node (noticed c.loop-i.i xs)) (drop_all c.loop-i.i c.args.notices.now c.loop-i-test.false))
