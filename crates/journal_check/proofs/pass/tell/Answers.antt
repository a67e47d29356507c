use Rattle.std.proofs.Common.{sym, subst, arith}
use Rattle.std.specs.Prelude.{IsSome, slice_set}
use Rattle.uid_names.proofs.Somes.{take-some}
use Rattle.dom_history.specs.declared.event.What.{What}
use Rattle.dom_history.specs.declared.event.What.TheVariants.{Notice}
use Rattle.journal_check.specs.Links.{link_place, at_link}
use Rattle.journal_check.proofs.LinkPlaces.{read-at}
use Rattle.journal_check.specs.Kept.{Kept, head_at}
use Rattle.journal_check.specs.Changes.{ChangeLinks, IsTold, IsFrameThere}
use Rattle.journal_check.proofs.LinkChanges.{told-one, told-nothing}
use Rattle.journal_check.proofs.pass.tell.Goals as goal

pub tell-requires : goal.tell-requires
tell-requires c =
    let links = c.args.frames.now.items in
    let nodes = c.args.nodes in
    let from = c.in-Notice.from in
    let to = c.in-Notice.to in
    let there = subst (λ (x : What). IsFrameThere nodes x links) c.in-Notice.is c.requires.there in
    let within = c.link_of.ensures.within in
    let many = c.requires.links.whole in
    let was = read-at links c.link_of.result (link_place nodes from to) c.index_mut.result.now (omega (arith, within, many)) c.index_mut.ensures.value c.link_of.ensures.value in
    take-some (λ (k : Kept). IsSome (head_at c.in-Notice.index k.heads)) (at_link nodes from to links) c.index_mut.result.now was there.2

pub returns-in-Notice : goal.returns-in-Notice
returns-in-Notice c =
    let links = c.args.frames.now.items in
    let nodes = c.args.nodes in
    let from = c.in-Notice.from in
    let to = c.in-Notice.to in
    let there = subst (λ (x : What). IsFrameThere nodes x links) c.in-Notice.is c.requires.there in
    let place = c.link_of.ensures.value in
    let within = c.link_of.ensures.within in
    let many = c.requires.links.whole in
    let was = read-at links c.link_of.result (link_place nodes from to) c.index_mut.result.now (omega (arith, within, many)) c.index_mut.ensures.value place in
    subst (λ (x : What). ChangeLinks nodes (IsTold x) links (slice_set links c.link_of.result c.tell.new.self)) (sym c.in-Notice.is)
    (subst (λ k. ChangeLinks nodes (IsTold (Notice c.in-Notice._proc from to c.in-Notice.index)) links (slice_set links k c.tell.new.self)) (sym place)
    (told-one nodes links many from to there.0 there.1 c.index_mut.result.now was c.in-Notice._proc c.in-Notice.index c.tell.new.self c.tell.ensures.count c.tell.ensures.told c.tell.ensures.live))

pub returns-in_default : goal.returns-in_default
returns-in_default c = told-nothing c.args.nodes c.args.frames.now.items c.args.what.now c.in_default.not-Notice
