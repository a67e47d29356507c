use Rattle.std.proofs.Common.{◌∙◌, map, sym}
use Rattle.page_cache.specs.Caches.{page_at}
use Rattle.page_cache.specs.Insides.{seen}
use Rattle.page_cache.proofs.CacheLemmas.{IsCache-sound, IsSound-promoted, map-seen-promoted, lookup-promoted, same_cache, frame-ordered, page_in-ordered, IsFrame-ordered, IfNone-mapped}
use Rattle.page_cache.proofs.CountLemmas.{clean_count-promoted}
use Rattle.page_cache.proofs.cache.Cache.use_page.Goals as goal

pub invariant_of-self : goal.invariant_of-self
invariant_of-self c = rw c.get.follows.holds-at-none (IsSound-promoted c.self.inside.pool c.self.inside.reserved c.self.inside.order.entries c.self.inside.order.cap c.self.inside.index.entries c.self.invariant.0 c.args.uid c.args.page, c.self.invariant.1 ∙ sym (clean_count-promoted c.self.inside.pool c.self.inside.reserved c.self.inside.order.entries c.self.inside.order.cap c.self.inside.index.entries c.self.invariant.0 c.args.uid c.args.page))

pub returns-clause-frame : goal.returns-clause-frame
returns-clause-frame c = rw (← c.self.view_is) (c.copied.ensures ∙ c.get.ensures.value ∙ frame-ordered c.self.inside.pool c.self.inside.reserved c.self.inside.order.entries c.self.inside.order.cap c.self.inside.index.entries c.self.invariant.0 (record { uid = c.args.uid; page = c.args.page }))

pub returns-clause-absent : goal.returns-clause-absent
returns-clause-absent c =
    rw (← c.self.view_is, c.copied.ensures, c.get.ensures.value, frame-ordered c.self.inside.pool c.self.inside.reserved c.self.inside.order.entries c.self.inside.order.cap c.self.inside.index.entries c.self.invariant.0 (record { uid = c.args.uid; page = c.args.page }))
    (IfNone-mapped (λ r. r.frame) (page_at (map (seen c.self.inside.pool) c.self.inside.order.entries) c.args.uid c.args.page))

pub returns-clause-pages : goal.returns-clause-pages
returns-clause-pages c =
    rw (← c.self.view_is, c.get.follows.holds-at-none)
    (same_cache _ _ _ _ (map-seen-promoted c.self.inside.pool c.self.inside.reserved c.self.inside.order.entries c.self.inside.order.cap c.self.inside.index.entries c.self.invariant.0 c.args.uid c.args.page))

pub returns-clause-in_it : goal.returns-clause-in_it
returns-clause-in_it c =
    let sound = IsSound-promoted c.self.inside.pool c.self.inside.reserved c.self.inside.order.entries c.self.inside.order.cap c.self.inside.index.entries c.self.invariant.0 c.args.uid c.args.page in
    let found = lookup-promoted c.self.inside.pool c.self.inside.reserved c.self.inside.order.entries c.self.inside.order.cap c.self.inside.index.entries c.self.invariant.0 c.args.uid c.args.page in
    rw (c.get.follows.holds-at-none, c.copied.ensures, c.get.ensures.value, ← found) (page_in-ordered c.self.inside.pool c.self.inside.reserved _ c.self.inside.order.cap c.self.inside.index.entries sound (record { uid = c.args.uid; page = c.args.page }))

pub returns-clause-is_frame : goal.returns-clause-is_frame
returns-clause-is_frame c =
    let sound = IsSound-promoted c.self.inside.pool c.self.inside.reserved c.self.inside.order.entries c.self.inside.order.cap c.self.inside.index.entries c.self.invariant.0 c.args.uid c.args.page in
    let found = lookup-promoted c.self.inside.pool c.self.inside.reserved c.self.inside.order.entries c.self.inside.order.cap c.self.inside.index.entries c.self.invariant.0 c.args.uid c.args.page in
    rw (c.get.follows.holds-at-none, c.copied.ensures, c.get.ensures.value, ← found) (IsFrame-ordered c.self.inside.pool c.self.inside.reserved _ c.self.inside.order.cap c.self.inside.index.entries sound (record { uid = c.args.uid; page = c.args.page }))

pub returns-clause-cache : goal.returns-clause-cache
returns-clause-cache c = rw c.get.follows.holds-at-none (IsCache-sound c.self.inside.pool c.self.inside.reserved _ c.self.inside.order.cap c.self.inside.index.entries (IsSound-promoted c.self.inside.pool c.self.inside.reserved c.self.inside.order.entries c.self.inside.order.cap c.self.inside.index.entries c.self.invariant.0 c.args.uid c.args.page))
