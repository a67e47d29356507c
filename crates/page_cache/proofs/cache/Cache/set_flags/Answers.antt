use Rattle.std.proofs.Common.{◌∙◌, ap, arith}
use Rattle.page_frames.specs.Pools.{frame_in}
use Rattle.page_cache.specs.Insides.{are_clean}
use Rattle.page_cache.proofs.CacheLemmas.{IsTaken-frame, IsSound-with_frame, map-seen-flags, same_cache}
use Rattle.page_cache.proofs.CountLemmas.{clean_count-flags}
use Rattle.page_cache.proofs.cache.Cache.set_flags.Goals as goal

pub set_flags-requires : goal.set_flags-requires
set_flags-requires c = IsTaken-frame c.self.inside.pool c.self.inside.reserved c.self.inside.order.entries c.self.inside.order.cap c.self.inside.index.entries c.self.invariant.0 c.args.frame (rw (← c.self.view_is) at c.requires)

pub invariant_of-self : goal.invariant_of-self
invariant_of-self c =
    let clean = c.is_clean-2.ensures ∙ ap are_clean c.flags-before.ensures in
    let counted = clean_count-flags c.self.inside.pool c.self.inside.reserved c.self.inside.order.entries c.self.inside.order.cap c.self.inside.index.entries c.self.invariant.0 c.args.frame (rw (← c.self.view_is) at c.requires) c.args.flags c.is_clean-2.result c.is_clean.result clean c.is_clean.ensures in
    let taken = IsTaken-frame c.self.inside.pool c.self.inside.reserved c.self.inside.order.entries c.self.inside.order.cap c.self.inside.index.entries c.self.invariant.0 c.args.frame (rw (← c.self.view_is) at c.requires) in
    rw c.set_flags.ensures (IsSound-with_frame c.self.inside.pool c.self.inside.reserved c.self.inside.order.entries c.self.inside.order.cap c.self.inside.index.entries c.args.frame (record (frame_in c.self.inside.pool c.args.frame) { flags = c.args.flags }) c.self.invariant.0 taken, omega (arith, counted, c.from.ensures, c.from-2.ensures, c.self.invariant.1))

pub returns : goal.returns
returns c = rw (← c.self.view_is, c.set_flags.ensures) (same_cache _ _ _ _ (map-seen-flags c.self.inside.pool c.args.frame c.args.flags c.self.inside.order.entries))

pub flags-before-requires : goal.flags-before-requires
flags-before-requires c = IsTaken-frame c.self.inside.pool c.self.inside.reserved c.self.inside.order.entries c.self.inside.order.cap c.self.inside.index.entries c.self.invariant.0 c.args.frame (rw (← c.self.view_is) at c.requires)

pub overflow_sub-self : goal.overflow_sub-self
overflow_sub-self c =
    let clean = c.is_clean-2.ensures ∙ ap are_clean c.flags-before.ensures in
    let counted = clean_count-flags c.self.inside.pool c.self.inside.reserved c.self.inside.order.entries c.self.inside.order.cap c.self.inside.index.entries c.self.invariant.0 c.args.frame (rw (← c.self.view_is) at c.requires) c.args.flags c.is_clean-2.result c.is_clean.result clean c.is_clean.ensures in
    omega (arith, counted, c.from.ensures, c.from-2.ensures, c.self.invariant.1)
