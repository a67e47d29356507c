use Rattle.std.proofs.Common.{◌≡◌, ℕ, Option, Some, None, refl, ap, sym, subst, ◌∙◌, arith}
use Rattle.std.specs.Prelude.{IfSome, slice_set}
use Rattle.ring_messages.specs.Frames.{Message}
use Rattle.fault_handler.specs.Desks.{IsNode}
use Rattle.journal_check.specs.Links.{link_place}
use Rattle.journal_check.proofs.LinkPlaces.{read-at}
use Rattle.journal_check.specs.Changes.{ChangeLinks, IsSent}
use Rattle.journal_check.proofs.LinkChanges.{both-ok, kept-is, none-changed, sent-one}
use Rattle.journal_check.proofs.pass.send.Goals as goal

pub returns-in_default : goal.returns-in_default
returns-in_default c =
    subst (λ (o : Option (ℕ × Message)). ChangeLinks c.args.nodes (IsSent o) c.args.frames.now.items c.args.frames.now.items) (sym c.in_default.is)
    (none-changed c.args.nodes (IsSent None) c.args.frames.now.items (λ a b k. refl))

pub returns : goal.returns
returns c =
    let links = c.args.frames.now.items in
    let nodes = c.args.nodes in
    let index = c.in-Some._index in
    let m = c.in-Some.frame in
    let named = subst (λ (o : Option (ℕ × Message)). IfSome o (λ x. IsNode nodes x.1.from × IsNode nodes x.1.to)) c.in-Some.is c.requires.named in
    let place : c.link_of-link.result ≡ link_place nodes m.from m.to =
    c.link_of-link.ensures.value ∙ (ap (λ a. link_place nodes a c.to.result) c.from.ensures.value ∙ ap (link_place nodes m.from) c.to.ensures.value) in
    let within = c.link_of-link.ensures.within in
    let many = c.requires.links.whole in
    let was = c.index_mut.result.now in
    let there = read-at links c.link_of-link.result (link_place nodes m.from m.to) was (omega (arith, within, many)) c.index_mut.ensures.value place in
    both-ok c.send.result c.send.ensures.heads c.send.ensures.live (λ heads live.
    subst (λ (o : Option (ℕ × Message)). ChangeLinks nodes (IsSent o) links (slice_set links c.link_of-link.result c.send.new.self)) (sym c.in-Some.is)
    (subst (λ k. ChangeLinks nodes (IsSent (Some (index, m))) links (slice_set links k c.send.new.self)) (sym place)
    (sent-one nodes links index m was c.send.new.self many named.0 named.1 there (kept-is c.send.new.self _ _ heads live))))
