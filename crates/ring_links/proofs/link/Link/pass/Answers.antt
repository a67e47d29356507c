use Rattle.std.proofs.Common.{◌+◌, ◌∙◌, [], ◌∷◌, ◌++◌, sym, ap, append-nil}
use Rattle.dom_history.specs.declared.plan.Fate.TheVariants.{Pass}
use Rattle.ring_links.specs.Carried.{copy_of, frame_sent}
use Rattle.ring_links.specs.Later.{by_number}
use Rattle.ring_links.proofs.Falling.{one_sent, none-fell, all-fell}
use Rattle.ring_links.proofs.Sent.{link-sent}
use Rattle.ring_links.proofs.link.Link.pass.Goals as goal

pub invariant_of-self-2 : goal.invariant_of-self-2
invariant_of-self-2 g c =
    let l = c.self.inside in
    let queue = c.put_copy.new.queue.items in
    (all-fell l.frames queue l.later.items queue l.later.items c.self.invariant.rising (none-fell l.frames queue l.later.items (one_sent l.frames l.frames l.later.items c.self.invariant))
    (sym c.falls_first.ensures ∙ c.if-falls_first.false)).ahead

pub returns-clause-sent : goal.returns-clause-sent
returns-clause-sent g c =
    let l = c.self.inside in
    let queue = c.put_copy.new.queue.items in
    link-sent Pass c.args.frame l.frames l.queue.items queue queue l.later.items l.later.items l.later.items
    (c.put_copy.ensures.waits ∙ ap (λ es. es ++ copy_of c.args.frame (l.frames + 1) ∷ []) c.reserve.ensures.items) (sym (append-nil (by_number l.later.items)))
    (all-fell l.frames queue l.later.items queue l.later.items c.self.invariant.rising (none-fell l.frames queue l.later.items (one_sent l.frames l.frames l.later.items c.self.invariant))
    (sym c.falls_first.ensures ∙ c.if-falls_first.false))
    ∙ ap (frame_sent Pass c.args.frame) c.self.view_is
