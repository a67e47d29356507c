use Rattle.std.proofs.Common.{◌+◌, ◌∙◌, [], ◌∷◌, ◌++◌, sym, ap, subst}
use Rattle.dom_history.specs.declared.plan.Fate.TheVariants.{Twice}
use Rattle.uid_names.specs.InOrder.{put_in_order}
use Rattle.ring_links.specs.Carried.{copy_of, own_copy, frame_sent}
use Rattle.ring_links.specs.Later.{falls_before, by_number, AreLater}
use Rattle.ring_links.proofs.Owning.{own-last, own-later}
use Rattle.ring_links.proofs.Sent.{link-sent}
use Rattle.ring_links.proofs.link.Link.twice.Goals as goal

pub fall_some-requires-clause-later : goal.fall_some-requires-clause-later
fall_some-requires-clause-later g c =
    let l = c.self.inside in
    let put =
    c.in_ok-put_later.ensures.ok
    ∙ ap (λ copy. put_in_order falls_before copy l.later.items) (c.own_later.ensures ∙ ap (own_copy l.frames c.args.after) c.in_ok-again.ensures) in
    subst (λ cs. AreLater (l.frames + 1) l.frames cs) (sym put) (own-later l.frames c.args.after c.args.frame l.later.items c.self.invariant)

pub returns-clause-sent : goal.returns-clause-sent
returns-clause-sent g c =
    let l = c.self.inside in
    let put =
    c.in_ok-put_later.ensures.ok
    ∙ ap (λ copy. put_in_order falls_before copy l.later.items) (c.own_later.ensures ∙ ap (own_copy l.frames c.args.after) c.in_ok-again.ensures) in
    link-sent (Twice c.args.after) c.args.frame l.frames l.queue.items c.put_copy.new.queue.items c.fall_some.new.queue.items l.later.items c.put_later.new.later.items c.fall_some.new.later.items
    (c.put_copy.ensures.waits ∙ ap (λ es. es ++ copy_of c.args.frame (l.frames + 1) ∷ []) c.reserve.ensures.items)
    (ap by_number put ∙ own-last l.frames c.args.after c.args.frame l.later.items c.self.invariant) c.fall_some.ensures
    ∙ ap (frame_sent (Twice c.args.after) c.args.frame) c.self.view_is
