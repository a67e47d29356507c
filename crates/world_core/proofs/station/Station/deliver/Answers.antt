use Rattle.std.proofs.Common.{◌≡◌, Some, refl, sym, ap, ◌∙◌}
use Rattle.std.specs.Prelude.{slice_get, slice_set, is_some}
use Rattle.std.specs.Vec.{with_item}
use Rattle.std.proofs.lemmas.Bool.{false≢true}
use Rattle.std.proofs.lemmas.Option.{slice_get-get_or}
use Rattle.std.proofs.lemmas.Result.{on_ok_weaker}
use Rattle.uid_names.proofs.Somes.{take-some}
use Rattle.ring_links.specs.Carried.{frame_sent}
use Rattle.node_core.specs.declared.setup.Incoming.TheVariants as received
use Rattle.world_core.specs.declared.station.LinkFrom.{LinkFrom}
use Rattle.world_core.specs.declared.station.Station.{Station}
use Rattle.world_core.proofs.Delivering.{delivered-there, still-listed, listed-without}
use Rattle.world_core.proofs.station.Station.deliver.Goals as goal
use Rattle.world_core.proofs.station.Station.deliver.Goals.{then-own-via-then-own, then-own-via-else-own+then-waits}

pub returns-then-own-clause-listed : goal.returns-then-own-clause-listed
returns-then-own-clause-listed g c =
    let x = c.args.self.now in
    let at = c.args.at in
    let l = c.index_mut.result.now in
    let there = slice_get-get_or x.ins.items at l c.requires.within ∙ ap Some (sym c.index_mut.ensures.value) in
    let waits = take-some (λ (k : LinkFrom). c.waits-waits.result ≡ is_some (slice_get k.link.queue 0)) (slice_get x.ins.items at) l there c.waits-waits.ensures in
    let y : Station g.row.P.Denot g.row.G.Denot = record { node = x.node; notices = x.notices; ins = with_item x.ins at (record l { link = c.send.new.self }); enabled = x.enabled } in
    let ins = ap (λ k. slice_set x.ins.items at (record l { link = k })) c.in_ok-send.ensures.sent in
    λ other listed. elim c.then-own.branch [
      | then-own-via-then-own w ↦ absurd (false≢true (sym other ∙ w.if-own.true))
      | then-own-via-else-own+then-waits w ↦ still-listed at (frame_sent c.args.fate (received.Frame c.args.frame) l.link) _ x y l there refl refl refl refl ins listed (sym waits ∙ w.if-waits.true)
    ]

pub returns-clause-listed : goal.returns-clause-listed
returns-clause-listed g c =
    let x = c.args.self.now in
    let at = c.args.at in
    let l = c.index_mut.result.now in
    let there = slice_get-get_or x.ins.items at l c.requires.within ∙ ap Some (sym c.index_mut.ensures.value) in
    let waits = take-some (λ (k : LinkFrom). c.waits-waits.result ≡ is_some (slice_get k.link.queue 0)) (slice_get x.ins.items at) l there c.waits-waits.ensures in
    let y : Station g.row.P.Denot g.row.G.Denot = record { node = x.node; notices = x.notices; ins = with_item x.ins at (record l { link = c.send.new.self }); enabled = x.enabled } in
    let ins = ap (λ k. slice_set x.ins.items at (record l { link = k })) c.in_ok-send.ensures.sent in
    on_ok_weaker c.list_oldest.result
    (λ listed other was. listed (listed-without at (frame_sent c.args.fate (received.Frame c.args.frame) l.link) _ x y l there refl refl refl refl ins was (sym waits ∙ c.if-waits.false)))
    c.list_oldest.ensures.listed

pub returns-clause-ins : goal.returns-clause-ins
returns-clause-ins g c =
    let x = c.args.self.now in
    let at = c.args.at in
    let l = c.index_mut.result.now in
    let there = slice_get-get_or x.ins.items at l c.requires.within ∙ ap Some (sym c.index_mut.ensures.value) in
    on_ok_weaker c.list_oldest.result
    (λ _. ap (λ v. v.items) c.list_oldest.ensures.others.ins ∙ ap (λ k. slice_set x.ins.items at (record l { link = k })) c.in_ok-send.ensures.sent
    ∙ delivered-there at c.args.fate c.args.frame x.ins.items l there)
    c.list_oldest.ensures.listed

pub returns-then-own-clause-node : goal.returns-then-own-clause-node
returns-then-own-clause-node g c = refl

pub returns-then-own-clause-notices : goal.returns-then-own-clause-notices
returns-then-own-clause-notices g c = refl

pub returns-then-own-clause-ins : goal.returns-then-own-clause-ins
returns-then-own-clause-ins g c =
    let x = c.args.self.now in
    let at = c.args.at in
    let l = c.index_mut.result.now in
    let there = slice_get-get_or x.ins.items at l c.requires.within ∙ ap Some (sym c.index_mut.ensures.value) in
    ap (λ k. slice_set x.ins.items at (record l { link = k })) c.in_ok-send.ensures.sent ∙ delivered-there at c.args.fate c.args.frame x.ins.items l there
