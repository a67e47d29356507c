use Rattle.std.proofs.Common.{◌≡◌, ◌+◌, ◌*◌, refl, ap, sym, subst, ◌∙◌, arith}
use Rattle.std.specs.Prelude.{◌-◌, slice_set}
use Rattle.std.proofs.lemmas.List.{length-set}
use Rattle.journal_check.specs.Links.{link_place}
use Rattle.journal_check.proofs.LinkPlaces.{link-within, read-at}
use Rattle.journal_check.proofs.HeardLinks.{AreHeard, heard-all, heard-more, heard-none}
use Rattle.journal_check.proofs.LinkChanges.{kept-is}
use Rattle.journal_check.proofs.pass.drop_heard.Goals as goal

pub loop-from-init : goal.loop-from-init
loop-from-init g c = (refl, heard-none c.args.nodes c.args.at c.args.node.now c.args.frames.now.items)

pub index_mut-requires : goal.index_mut-requires
index_mut-requires g c =
    let from = c.loop-from.from in
    let low = c.loop-from-test.true in
    let at = c.place_of.ensures.value in
    let many = c.loop-from.invariant.0 in
    let whole = c.requires.links.whole in
    let within = link-within c.args.nodes (from + 1) c.args.at (omega arith, omega (arith, low)) c.requires.at in
    let place : from * c.args.nodes + c.place_of.result ≡ link_place c.args.nodes (from + 1) c.args.at =
    ap (λ k. from * c.args.nodes + k) at ∙ ap (λ k. k * c.args.nodes + (c.args.at - 1)) (omega arith) in
    omega (arith, within, place, many, whole)

pub loop-from-preserved : goal.loop-from-preserved
loop-from-preserved g c =
    let nodes = c.args.nodes in
    let at = c.args.at in
    let x = c.args.node.now in
    let from = c.loop-from.from in
    let low = c.loop-from-test.true in
    let links = c.loop-from.frames.items in
    let place : from * nodes + c.place_of.result ≡ link_place nodes (from + 1) at =
    ap (λ k. from * nodes + k) c.place_of.ensures.value ∙ ap (λ k. k * nodes + (at - 1)) (omega arith) in
    let many = c.loop-from.invariant.0 in
    let whole = c.requires.links.whole in
    let within = link-within nodes (from + 1) at (omega arith, omega (arith, low)) c.requires.at in
    let was = c.index_mut.result.now in
    let there = read-at links (from * nodes + c.place_of.result) (link_place nodes (from + 1) at) was (omega (arith, within, place, many, whole)) c.index_mut.ensures.value place in
    let y = c.drop_heard.new.self in (
      length-set links (from * nodes + c.place_of.result) y ∙ many,
      subst (λ k. AreHeard nodes at x (from + 1) c.args.frames.now.items (slice_set links k y)) (sym place)
          (heard-more nodes at x from c.args.frames.now.items links was y c.requires.at low (many ∙ whole) c.loop-from.invariant.1 there (kept-is y _ _ c.drop_heard.ensures.heads c.drop_heard.ensures.live)),
    )

pub returns : goal.returns
returns g c =
    heard-all c.args.nodes c.args.at c.args.node.now c.loop-from.from c.args.frames.now.items c.loop-from.frames.items c.loop-from.invariant.0 c.loop-from-test.false c.loop-from.invariant.1
