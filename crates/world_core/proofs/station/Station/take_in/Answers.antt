use Rattle.std.proofs.Common.{◌≡◌, Some, refl, sym, ap, ◌∙◌}
use Rattle.std.specs.Prelude.{slice_get, slice_set, is_some}
use Rattle.std.specs.Vec.{with_item}
use Rattle.std.proofs.lemmas.Option.{slice_get-get_or}
use Rattle.std.proofs.lemmas.Result.{on_ok_weaker}
use Rattle.uid_names.proofs.Somes.{take-some}
use Rattle.ring_links.specs.Carried.{mark_sent}
use Rattle.node_core.specs.declared.setup.Incoming.TheVariants as received
use Rattle.world_core.specs.declared.station.LinkFrom.{LinkFrom}
use Rattle.world_core.specs.declared.station.Station.{Station}
use Rattle.world_core.proofs.Delivering.{marked-there, still-listed, listed-without}
use Rattle.world_core.proofs.station.Station.take_in.Goals as goal

pub returns-then-waits-clause-listed : goal.returns-then-waits-clause-listed
returns-then-waits-clause-listed g c =
    let x = c.args.self.now in
    let at = c.args.at in
    let l = c.index_mut.result.now in
    let there = slice_get-get_or x.ins.items at l c.requires.within ∙ ap Some (sym c.index_mut.ensures.value) in
    let waits = take-some (λ (k : LinkFrom). c.waits-waits.result ≡ is_some (slice_get k.link.queue 0)) (slice_get x.ins.items at) l there c.waits-waits.ensures in
    let y : Station g.row.P.Denot g.row.G.Denot = record { node = x.node; notices = x.notices; ins = with_item x.ins at (record l { link = c.mark.new.self }); enabled = x.enabled } in
    let ins = ap (λ k. slice_set x.ins.items at (record l { link = k })) c.in_ok-mark.ensures.sent in
    λ listed. still-listed at (mark_sent c.args.phase (received.Mark c.args.tick) l.link) _ x y l there refl refl refl refl ins listed (sym waits ∙ c.if-waits.true)

pub returns-then-waits-clause-ins : goal.returns-then-waits-clause-ins
returns-then-waits-clause-ins g c =
    let x = c.args.self.now in
    let at = c.args.at in
    let l = c.index_mut.result.now in
    let there = slice_get-get_or x.ins.items at l c.requires.within ∙ ap Some (sym c.index_mut.ensures.value) in
    ap (λ k. slice_set x.ins.items at (record l { link = k })) c.in_ok-mark.ensures.sent ∙ marked-there at c.args.phase c.args.tick x.ins.items l there

pub returns-clause-listed : goal.returns-clause-listed
returns-clause-listed g c =
    let x = c.args.self.now in
    let at = c.args.at in
    let l = c.index_mut.result.now in
    let there = slice_get-get_or x.ins.items at l c.requires.within ∙ ap Some (sym c.index_mut.ensures.value) in
    let waits = take-some (λ (k : LinkFrom). c.waits-waits.result ≡ is_some (slice_get k.link.queue 0)) (slice_get x.ins.items at) l there c.waits-waits.ensures in
    let y : Station g.row.P.Denot g.row.G.Denot = record { node = x.node; notices = x.notices; ins = with_item x.ins at (record l { link = c.mark.new.self }); enabled = x.enabled } in
    let ins = ap (λ k. slice_set x.ins.items at (record l { link = k })) c.in_ok-mark.ensures.sent in
    on_ok_weaker c.list_oldest.result
    (λ listed was. listed (listed-without at (mark_sent c.args.phase (received.Mark c.args.tick) l.link) _ x y l there refl refl refl refl ins was (sym waits ∙ c.if-waits.false)))
    c.list_oldest.ensures.listed

pub returns-clause-ins : goal.returns-clause-ins
returns-clause-ins g c =
    let x = c.args.self.now in
    let at = c.args.at in
    let l = c.index_mut.result.now in
    let there = slice_get-get_or x.ins.items at l c.requires.within ∙ ap Some (sym c.index_mut.ensures.value) in
    on_ok_weaker c.list_oldest.result
    (λ _. ap (λ v. v.items) c.list_oldest.ensures.others.ins ∙ ap (λ k. slice_set x.ins.items at (record l { link = k })) c.in_ok-mark.ensures.sent
    ∙ marked-there at c.args.phase c.args.tick x.ins.items l there)
    c.list_oldest.ensures.listed
