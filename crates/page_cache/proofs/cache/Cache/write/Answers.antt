use Rattle.std.proofs.Common.{◌+◌, ◌∙◌, sym, refl, arith, length}
use Rattle.page_cache.proofs.CacheLemmas.{IsTaken-frame, IsSound-with_frame, map-seen-bytes, same_cache}
use Rattle.page_cache.proofs.CountLemmas.{clean_count-bytes}
use borrow.Rule.Slice.PartMut.{Post-is}
use Rattle.page_cache.proofs.cache.Cache.write.Goals as goal

pub bytes_mut-page-requires : goal.bytes_mut-page-requires
bytes_mut-page-requires c = IsTaken-frame c.self.inside.pool c.self.inside.reserved c.self.inside.order.entries c.self.inside.order.cap c.self.inside.index.entries c.self.invariant.0 c.args.frame (rw (← c.self.view_is) at c.requires.frame)

pub invariant_of-self : goal.invariant_of-self
invariant_of-self c =
    let taken = IsTaken-frame c.self.inside.pool c.self.inside.reserved c.self.inside.order.entries c.self.inside.order.cap c.self.inside.index.entries c.self.invariant.0 c.args.frame (rw (← c.self.view_is) at c.requires.frame) in
    (IsSound-with_frame c.self.inside.pool c.self.inside.reserved c.self.inside.order.entries c.self.inside.order.cap c.self.inside.index.entries c.args.frame _ c.self.invariant.0 taken, c.self.invariant.1 ∙ sym (clean_count-bytes c.self.inside.pool c.self.inside.reserved c.self.inside.order.entries c.self.inside.order.cap c.self.inside.index.entries c.self.invariant.0 c.args.frame (rw (← c.self.view_is) at c.requires.frame) _))

pub returns : goal.returns
returns c = rw (← c.self.view_is) (same_cache _ _ _ _ (map-seen-bytes c.self.inside.pool c.args.frame c.args.offset c.args.bytes.now _ c.self.inside.order.entries (rw (c.copy_from_slice.ensures.after, Post-is c.args.offset (c.args.offset + length c.args.bytes.now) c.bytes_mut-page.result.now (omega arith), c.bytes_mut-page.ensures.value) refl)))
