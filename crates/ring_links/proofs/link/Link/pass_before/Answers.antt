use Rattle.std.proofs.Common.{◌+◌, ◌∙◌, [], ◌∷◌, ◌++◌, sym, ap, append-nil}
use Rattle.dom_history.specs.declared.plan.Fate.TheVariants.{Pass}
use Rattle.ring_links.specs.Carried.{copy_of, frame_sent}
use Rattle.ring_links.specs.Later.{by_number}
use Rattle.ring_links.proofs.Falling.{one_sent}
use Rattle.ring_links.proofs.Sent.{link-sent}
use Rattle.ring_links.proofs.link.Link.pass_before.Goals as goal

pub fall_some-requires-clause-later : goal.fall_some-requires-clause-later
fall_some-requires-clause-later g c = one_sent c.self.inside.frames c.self.inside.frames c.self.inside.later.items c.self.invariant

pub returns-clause-sent : goal.returns-clause-sent
returns-clause-sent g c =
    let l = c.self.inside in
    link-sent Pass c.args.frame l.frames l.queue.items c.put_copy.new.queue.items c.fall_some.new.queue.items l.later.items l.later.items c.fall_some.new.later.items
    (c.put_copy.ensures.waits ∙ ap (λ es. es ++ copy_of c.args.frame (l.frames + 1) ∷ []) c.reserve.ensures.items) (sym (append-nil (by_number l.later.items))) c.fall_some.ensures
    ∙ ap (frame_sent Pass c.args.frame) c.self.view_is
