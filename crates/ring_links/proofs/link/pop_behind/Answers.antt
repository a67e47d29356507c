use Rattle.std.proofs.Common.{◌∙◌, sym}
use Rattle.ring_links.proofs.Falling.{first-popped}
use Rattle.ring_links.proofs.link.pop_behind.Goals as goal

pub returns-then-falls_first-clause-some : goal.returns-then-falls_first-clause-some
returns-then-falls_first-clause-some g c =
    (first-popped c.args.frame c.args.later.now.items c.pop_first.new.later.items c.pop_first.result c.pop_first.ensures.first c.pop_first.ensures.rest (sym c.falls_first.ensures ∙ c.if-falls_first.true)).0

pub returns-then-falls_first-clause-none : goal.returns-then-falls_first-clause-none
returns-then-falls_first-clause-none g c =
    (first-popped c.args.frame c.args.later.now.items c.pop_first.new.later.items c.pop_first.result c.pop_first.ensures.first c.pop_first.ensures.rest (sym c.falls_first.ensures ∙ c.if-falls_first.true)).1
