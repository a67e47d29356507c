use Rattle.std.proofs.Common.{◌≡◌, ◌<◌, ◌+◌, ◌-◌, ◌∙◌, ap, sym, arith, refl}
use Rattle.page_frames.specs.Pools.{Frame, no_flags}
use Rattle.page_frames.proofs.FrameLemmas.{frame_at-with_frame-same, without_frame-with_frame}
use Rattle.page_cache.specs.Insides.{Slot}
use Rattle.page_cache.proofs.CacheLemmas.{slot_at-absent, IsSound-installed, IsSound-reindexed, map-seen-installed, same_cache}
use Rattle.page_cache.proofs.CountLemmas.{clean_count-installed}
use Rattle.page_cache.proofs.cache.Cache.install.Goals as goal

pub enter-requires : goal.enter-requires
enter-requires c =
    let some : 0 < c.self.inside.reserved = rw (← c.self.view_is) at c.requires.reserved in
    record {
      indexed = c.self.invariant.0.indexed;
      absent = slot_at-absent c.self.inside.pool c.self.inside.order.entries c.args.uid c.args.page (rw (← c.self.view_is) at c.requires.absent);
      room = omega (arith, c.self.invariant.0.room, c.self.invariant.0.placed);
    }

pub invariant_of-self : goal.invariant_of-self
invariant_of-self c =
    let slot : Slot = (record { uid = c.args.uid; page = c.args.page }, c.fill_reserved-frame.result) in
    let held : Frame = record { bytes = c.args.bytes.now; flags = no_flags } in
    let fits : c.args.page < 4294967296 = omega arith in
    rw (c.fill_reserved-frame.ensures.taken, c.fill_reserved-frame.ensures.reserved, c.in-Ok.ensures.order)
    (IsSound-installed c.self.inside.pool c.self.inside.reserved c.self.inside.order.entries c.self.inside.order.cap c.self.inside.index.entries c.self.invariant.0 slot held c.fill_reserved-frame.ensures.free (rw (← c.self.view_is) at c.requires.absent) c.enter.new.index.entries (rw (← c.self.view_is) at c.requires.reserved) fits (rw c.in-Ok.ensures.order at c.in-Ok.ensures.index), ap (λ n. n + 1) c.self.invariant.1 ∙ sym (clean_count-installed c.self.inside.pool c.self.inside.reserved c.self.inside.order.entries c.self.inside.order.cap c.self.inside.index.entries c.self.invariant.0 slot c.args.bytes.now c.fill_reserved-frame.ensures.free (rw (← c.self.view_is) at c.requires.absent)))

pub returns-in-Ok-clause-ok : goal.returns-in-Ok-clause-ok
returns-in-Ok-clause-ok c =
    let slot : Slot = (record { uid = c.args.uid; page = c.args.page }, c.fill_reserved-frame.result) in
    let held : Frame = record { bytes = c.args.bytes.now; flags = no_flags } in (
      c.fill_reserved-frame.result,
      rw (← c.self.view_is, c.fill_reserved-frame.ensures.taken, c.fill_reserved-frame.ensures.reserved, c.in-Ok.ensures.order)
          (same_cache _ _ _ _ (map-seen-installed c.self.inside.pool c.self.inside.reserved c.self.inside.order.entries c.self.inside.order.cap c.self.inside.index.entries c.self.invariant.0 slot held c.fill_reserved-frame.ensures.free (rw (← c.self.view_is) at c.requires.absent))),
    )

pub give_back-requires : goal.give_back-requires
give_back-requires c = rw (c.fill_reserved-frame.ensures.taken, frame_at-with_frame-same c.self.inside.pool c.fill_reserved-frame.result (record { bytes = c.args.bytes.now; flags = no_flags })) refl

pub invariant_of-self-in-Err : goal.invariant_of-self-in-Err
invariant_of-self-in-Err c =
    let held : Frame = record { bytes = c.args.bytes.now; flags = no_flags } in
    let some : 0 < c.self.inside.reserved = rw (← c.self.view_is) at c.requires.reserved in
    let again : c.self.inside.reserved - 1 + 1 ≡ c.self.inside.reserved = omega arith in
    rw (c.give_back.ensures, c.fill_reserved-frame.ensures.taken, without_frame-with_frame c.self.inside.pool c.fill_reserved-frame.result held c.fill_reserved-frame.ensures.free, c.fill_reserved-frame.ensures.reserved, again, c.in-Err.ensures.err)
    (IsSound-reindexed c.self.inside.pool c.self.inside.reserved c.self.inside.order.entries c.self.inside.order.cap c.self.inside.index.entries c.enter.new.index.entries c.self.invariant.0 (rw c.in-Err.ensures.err at c.in-Err.ensures.index), c.self.invariant.1)

pub returns-in-Err-clause-err : goal.returns-in-Err-clause-err
returns-in-Err-clause-err c =
    let held : Frame = record { bytes = c.args.bytes.now; flags = no_flags } in
    let some : 0 < c.self.inside.reserved = rw (← c.self.view_is) at c.requires.reserved in
    let again : c.self.inside.reserved - 1 + 1 ≡ c.self.inside.reserved = omega arith in
    rw (← c.self.view_is, c.give_back.ensures, c.fill_reserved-frame.ensures.taken, without_frame-with_frame c.self.inside.pool c.fill_reserved-frame.result held c.fill_reserved-frame.ensures.free, c.fill_reserved-frame.ensures.reserved, again, c.in-Err.ensures.err)
    refl
