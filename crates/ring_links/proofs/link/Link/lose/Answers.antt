use Rattle.std.proofs.Common.{◌∙◌, sym, ap, append-nil}
use Rattle.dom_history.specs.declared.plan.Fate.TheVariants.{Lose}
use Rattle.ring_links.specs.Carried.{frame_sent}
use Rattle.ring_links.specs.Later.{by_number}
use Rattle.ring_links.proofs.Falling.{one_sent}
use Rattle.ring_links.proofs.Sent.{link-sent}
use Rattle.ring_links.proofs.link.Link.lose.Goals as goal

pub fall_some-requires-clause-later : goal.fall_some-requires-clause-later
fall_some-requires-clause-later g c = one_sent c.self.inside.frames c.self.inside.frames c.self.inside.later.items c.self.invariant

pub returns-clause-sent : goal.returns-clause-sent
returns-clause-sent g c frame =
    let l = c.self.inside in
    link-sent Lose frame l.frames l.queue.items c.reserve.new.self.items c.fall_some.new.queue.items l.later.items l.later.items c.fall_some.new.later.items
    (c.reserve.ensures.items ∙ sym (append-nil l.queue.items)) (sym (append-nil (by_number l.later.items))) c.fall_some.ensures
    ∙ ap (frame_sent Lose frame) c.self.view_is
