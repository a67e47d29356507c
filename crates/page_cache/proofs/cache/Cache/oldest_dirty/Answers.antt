use Rattle.std.proofs.Common.{◌≡◌, ◌∙◌, false}
use Rattle.page_cache.specs.Victims.{is_dirty_choice}
use Rattle.page_cache.specs.Insides.{Slot, seen}
use Rattle.page_cache.proofs.CacheLemmas.{IsCache-sound}
use Rattle.page_cache.proofs.LoopLemmas.{is_dirty_choice-seen, fails_either, fails_second, AreTaken-before, oldest-before}
use Rattle.page_cache.proofs.cache.Cache.oldest_dirty.Goals as goal
use Rattle.page_cache.proofs.cache.Cache.oldest_dirty.Goals.{else-flags-via-then-flags+else-not-flags, else-flags-via-else-flags}

pub returns-then-not-flags-clause-cache : goal.returns-then-not-flags-clause-cache
returns-then-not-flags-clause-cache c = rw (← c.self.view_is) (IsCache-sound c.self.inside.pool c.self.inside.reserved c.self.inside.order.entries c.self.inside.order.cap c.self.inside.index.entries c.self.invariant.0)

pub loop-name-preserved : goal.loop-name-preserved
loop-name-preserved c =
    let all = c.loop-name.name-iterator.iter in
    let rest = c.next.new.self.iter in
    let slot : Slot = (c.in-Some.name.now, c.in-Some.frame.now) in
    let choice = is_dirty_choice-seen c.self.inside.pool slot c.flags-flags.result c.flags-flags.ensures in
    let fails : is_dirty_choice (seen c.self.inside.pool slot) ≡ false =
    choice ∙ elim c.else-flags.branch [
      | else-flags-via-then-flags+else-not-flags w ↦ fails_second _ _ w.if-not-flags.false
      | else-flags-via-else-flags w ↦ fails_either _ _ w.if-flags.false
    ] in
    record {
      taken = AreTaken-before c.self.inside.pool all rest slot c.in-Some.ensures.steps c.loop-name.invariant.taken;
      left = c.loop-name.invariant.left ∙ oldest-before c.self.inside.pool all rest slot c.in-Some.ensures.steps is_dirty_choice fails;
    }

pub returns-clause-cache : goal.returns-clause-cache
returns-clause-cache c = rw (← c.self.view_is) (IsCache-sound c.self.inside.pool c.self.inside.reserved c.self.inside.order.entries c.self.inside.order.cap c.self.inside.index.entries c.self.invariant.0)
