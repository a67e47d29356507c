use Rattle.std.proofs.Common.{◌+◌, List, ap, sym, subst, ◌∙◌, map}
use Rattle.node_runs.specs.Deliveries.{deliveries}
use Rattle.world_runs.specs.Links as links
use Rattle.ring_links.specs.Carried.{plain_later, plain_link}
use Rattle.ring_links.specs.declared.link.Later.{Later}
use Rattle.journal_check.specs.Orders.{AreKeptLater}
use Rattle.journal_check.specs.declared.order.Bare.{Bare}
use Rattle.journal_check.proofs.Ordering.{order-sent}
use Rattle.journal_check.proofs.order.Order.send.Goals as goal

pub returns : goal.returns
returns c = λ fates count taken is fate.
    let old = c.args.self.now in
    let sent =
    ap plain_link c.in_ok-send.ensures.sent
    ∙ c.links_go_by_what_waits.ensures.frame c.args.fate _ old.waiting
    ∙ ap (λ f. links.frame_sent f (plain_link old.waiting)) (sym fate) in
    let after = order-sent fates count taken old.fault old.waiting c.send.new.self old.early.items is.frames is.later is.order sent in
    record {
      frames = c.settle.ensures.frames ∙ after.frames;
      later = subst (λ (ls : List (Later Bare)). AreKeptLater fates (count + 1) (map plain_later ls)) (sym c.settle.ensures.later) after.later;
      order = c.settle.ensures.order (deliveries fates (count + 1)) taken after.half;
    }
