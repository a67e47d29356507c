use Rattle.std.proofs.Common.{◌∙◌, sym, ap, arith}
use Rattle.std.specs.List.{find}
use Rattle.page_cache.specs.Insides.{are_clean, slot_is}
use Rattle.page_cache.proofs.CacheLemmas.{mapped_from, none_mapped, IsTaken-slot, IsSound-removed, IsSound-reindexed, map-seen-removed, filter-absent, without_page-absent, same_cache}
use Rattle.page_frames.specs.Pools.{frame_in}
use Rattle.page_cache.proofs.CountLemmas.{clean_count-removed}
use Rattle.page_cache.proofs.cache.Cache.remove.Goals as goal

pub give_back-requires : goal.give_back-requires
give_back-requires c =
    let there = mapped_from (λ s. s.1) (find (slot_is c.args.uid c.args.page) c.self.inside.order.entries) c.in-Some.frame (sym c.leave.ensures.frame ∙ c.in-Some.is) in
    rw (← there.2) (IsTaken-slot c.self.inside.pool c.self.inside.reserved c.self.inside.order.entries c.self.inside.order.cap c.self.inside.index.entries c.self.invariant.0 (slot_is c.args.uid c.args.page) there.0 there.1)

pub invariant_of-self : goal.invariant_of-self
invariant_of-self c =
    let there = mapped_from (λ s. s.1) (find (slot_is c.args.uid c.args.page) c.self.inside.order.entries) c.in-Some.frame (sym c.leave.ensures.frame ∙ c.in-Some.is) in
    let clean = c.is_clean.ensures ∙ ap are_clean (c.flags.ensures ∙ ap (λ n. (frame_in c.self.inside.pool n).flags) (sym there.2)) in
    let counted = clean_count-removed c.self.inside.pool c.self.inside.reserved c.self.inside.order.entries c.self.inside.order.cap c.self.inside.index.entries c.self.invariant.0 c.args.uid c.args.page there.0 there.1 c.is_clean.result clean in
    rw (c.give_back.ensures, c.leave.ensures.order, ← there.2)
    (IsSound-removed c.self.inside.pool c.self.inside.reserved c.self.inside.order.entries c.self.inside.order.cap c.self.inside.index.entries c.self.invariant.0 c.args.uid c.args.page there.0 there.1 c.leave.new.index.entries (rw c.leave.ensures.order at c.leave.ensures.index), omega (arith, counted, c.from.ensures, c.self.invariant.1))

pub invariant_of-self-in_default : goal.invariant_of-self-in_default
invariant_of-self-in_default c =
    let none = none_mapped (λ s. s.1) (find (slot_is c.args.uid c.args.page) c.self.inside.order.entries) (sym c.leave.ensures.frame ∙ c.in_default.is) in
    let same = rw (c.leave.ensures.order, filter-absent c.self.inside.pool c.self.inside.order.entries c.args.uid c.args.page none) at c.leave.ensures.index in
    rw (c.leave.ensures.order, filter-absent c.self.inside.pool c.self.inside.order.entries c.args.uid c.args.page none)
    (IsSound-reindexed c.self.inside.pool c.self.inside.reserved c.self.inside.order.entries c.self.inside.order.cap c.self.inside.index.entries c.leave.new.index.entries c.self.invariant.0 same, c.self.invariant.1)

pub returns-in-Some : goal.returns-in-Some
returns-in-Some c =
    let there = mapped_from (λ s. s.1) (find (slot_is c.args.uid c.args.page) c.self.inside.order.entries) c.in-Some.frame (sym c.leave.ensures.frame ∙ c.in-Some.is) in
    rw (← c.self.view_is, c.give_back.ensures, c.leave.ensures.order, ← there.2)
    (same_cache _ _ _ _ (map-seen-removed c.self.inside.pool c.self.inside.reserved c.self.inside.order.entries c.self.inside.order.cap c.self.inside.index.entries c.self.invariant.0 c.args.uid c.args.page there.0 there.1))

pub returns-in_default : goal.returns-in_default
returns-in_default c =
    let none = none_mapped (λ s. s.1) (find (slot_is c.args.uid c.args.page) c.self.inside.order.entries) (sym c.leave.ensures.frame ∙ c.in_default.is) in
    rw (← c.self.view_is, c.leave.ensures.order, filter-absent c.self.inside.pool c.self.inside.order.entries c.args.uid c.args.page none)
    (same_cache _ _ _ _ (sym (without_page-absent c.self.inside.pool c.self.inside.order.entries c.args.uid c.args.page none)))

pub flags-requires : goal.flags-requires
flags-requires c =
    let there = mapped_from (λ s. s.1) (find (slot_is c.args.uid c.args.page) c.self.inside.order.entries) c.in-Some.frame (sym c.leave.ensures.frame ∙ c.in-Some.is) in
    rw (← there.2) (IsTaken-slot c.self.inside.pool c.self.inside.reserved c.self.inside.order.entries c.self.inside.order.cap c.self.inside.index.entries c.self.invariant.0 (slot_is c.args.uid c.args.page) there.0 there.1)

pub overflow_sub-self : goal.overflow_sub-self
overflow_sub-self c =
    let there = mapped_from (λ s. s.1) (find (slot_is c.args.uid c.args.page) c.self.inside.order.entries) c.in-Some.frame (sym c.leave.ensures.frame ∙ c.in-Some.is) in
    let clean = c.is_clean.ensures ∙ ap are_clean (c.flags.ensures ∙ ap (λ n. (frame_in c.self.inside.pool n).flags) (sym there.2)) in
    let counted = clean_count-removed c.self.inside.pool c.self.inside.reserved c.self.inside.order.entries c.self.inside.order.cap c.self.inside.index.entries c.self.invariant.0 c.args.uid c.args.page there.0 there.1 c.is_clean.result clean in
    omega (arith, counted, c.from.ensures, c.self.invariant.1)
