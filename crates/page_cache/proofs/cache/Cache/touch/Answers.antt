use Rattle.std.proofs.Common.{◌∙◌, sym}
use Rattle.page_cache.proofs.SlotLemmas.{promoted-page}
use Rattle.page_cache.proofs.CacheLemmas.{slot_at, IsSound-used, map-seen-used, same_cache}
use Rattle.page_cache.proofs.CountLemmas.{clean_count-used}
use Rattle.page_cache.proofs.cache.Cache.touch.Goals as goal

pub invariant_of-self : goal.invariant_of-self
invariant_of-self c =
    let there = slot_at c.self.inside.pool c.self.inside.order.entries c.args.uid c.args.page (rw (← c.self.view_is) at c.requires) in
    rw (c.promote.ensures.entries, promoted-page (record { uid = c.args.uid; page = c.args.page }) c.self.inside.order.entries there.0 there.1 (c.self.invariant.0.pages c.args.uid c.args.page))
    (IsSound-used c.self.inside.pool c.self.inside.reserved c.self.inside.order.entries c.self.inside.order.cap c.self.inside.index.entries c.self.invariant.0 c.args.uid c.args.page there.0 there.1, c.self.invariant.1 ∙ sym (clean_count-used c.self.inside.pool c.self.inside.reserved c.self.inside.order.entries c.self.inside.order.cap c.self.inside.index.entries c.self.invariant.0 c.args.uid c.args.page there.0 there.1))

pub returns : goal.returns
returns c =
    let there = slot_at c.self.inside.pool c.self.inside.order.entries c.args.uid c.args.page (rw (← c.self.view_is) at c.requires) in
    rw (← c.self.view_is, c.promote.ensures.entries, promoted-page (record { uid = c.args.uid; page = c.args.page }) c.self.inside.order.entries there.0 there.1 (c.self.invariant.0.pages c.args.uid c.args.page))
    (same_cache _ _ _ _ (map-seen-used c.self.inside.pool c.self.inside.reserved c.self.inside.order.entries c.self.inside.order.cap c.self.inside.index.entries c.self.invariant.0 c.args.uid c.args.page there.0 there.1))
