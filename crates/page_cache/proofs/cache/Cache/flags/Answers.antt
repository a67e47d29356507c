use Rattle.std.proofs.Common.{Some, sym, ap, ◌∙◌}
use Rattle.page_cache.proofs.CacheLemmas.{IsTaken-frame, page_in-frame}
use Rattle.page_cache.proofs.cache.Cache.flags.Goals as goal

pub flags-requires : goal.flags-requires
flags-requires c = IsTaken-frame c.self.inside.pool c.self.inside.reserved c.self.inside.order.entries c.self.inside.order.cap c.self.inside.index.entries c.self.invariant.0 c.args.frame (rw (← c.self.view_is) at c.requires)

pub returns : goal.returns
returns c =
    let there = page_in-frame c.self.inside.pool c.self.inside.reserved c.self.inside.order.entries c.self.inside.order.cap c.self.inside.index.entries c.self.invariant.0 c.args.frame (rw (← c.self.view_is) at c.requires) in
    rw (← c.self.view_is, there.1) (ap Some (there.3 ∙ sym c.flags.ensures))
