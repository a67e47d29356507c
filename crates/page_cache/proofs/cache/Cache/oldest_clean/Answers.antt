use Rattle.std.proofs.Common.{◌≡◌, ◌-◌, ◌∙◌, Some, None, ap, refl, inl, inr, arith}
use Rattle.page_cache.specs.Victims.{is_clean_choice, name_of}
use Rattle.page_cache.specs.Insides.{Slot, seen, clean_count}
use Rattle.page_cache.proofs.CacheLemmas.{IsCache-sound}
use Rattle.page_cache.proofs.LoopLemmas.{is_clean_choice-seen, AreTaken-before, AreTaken-behind, IsTaken-first, IsTaken-last, count-first, oldest-is_last, oldest-before, oldest-behind_failed, oldest-behind_more, oldest-is_first}
use Rattle.page_cache.proofs.cache.Cache.oldest_clean.Goals as goal

pub flags-requires : goal.flags-requires
flags-requires c =
    let old : Slot = (c.in-Some.old.now, c.in-Some.old_frame.now) in
    IsTaken-last c.self.inside.pool c.loop-new.new-iterator.b.iter c.next.new.self.b.iter old c.in-Some.ensures.steps.1 c.loop-new.invariant.older_taken

pub flags-requires-in-loop-new : goal.flags-requires-in-loop-new
flags-requires-in-loop-new c =
    let new : Slot = (c.in-Some.new.now, c.in-Some.new_frame.now) in
    IsTaken-first c.self.inside.pool c.loop-new.new-iterator.a c.next.new.self.a new c.in-Some.ensures.steps.0 c.loop-new.invariant.newer_taken

pub returns-then-is_clean-clause-choice : goal.returns-then-is_clean-clause-choice
returns-then-is_clean-clause-choice c =
    let pool = c.self.inside.pool in
    let old : Slot = (c.in-Some.old.now, c.in-Some.old_frame.now) in
    let clean = is_clean_choice-seen pool old c.flags.result c.is_clean.result c.flags.ensures c.is_clean.ensures ∙ c.if-is_clean.true in
    rw (← c.self.view_is, c.loop-new.invariant.in_older, oldest-is_last pool c.loop-new.new-iterator.b.iter c.next.new.self.b.iter old c.in-Some.ensures.steps.1 is_clean_choice clean) (λ i. Some (name_of (seen pool old)))

pub returns-then-is_clean-clause-cache : goal.returns-then-is_clean-clause-cache
returns-then-is_clean-clause-cache c = rw (← c.self.view_is) (IsCache-sound c.self.inside.pool c.self.inside.reserved c.self.inside.order.entries c.self.inside.order.cap c.self.inside.index.entries c.self.invariant.0)

pub overflow_sub-unseen : goal.overflow_sub-unseen
overflow_sub-unseen c =
    let pool = c.self.inside.pool in
    let new : Slot = (c.in-Some.new.now, c.in-Some.new_frame.now) in
    let clean = is_clean_choice-seen pool new c.flags-in-loop-new.result c.is_clean-in-loop-new.result c.flags-in-loop-new.ensures c.is_clean-in-loop-new.ensures ∙ c.if-is_clean-2.true in
    let counted = rw clean at (count-first pool c.loop-new.new-iterator.a c.next.new.self.a new c.in-Some.ensures.steps.0 is_clean_choice) in
    omega (arith, c.loop-new.invariant.unseen, counted)

pub returns-then-unseen-eq0-clause-choice : goal.returns-then-unseen-eq0-clause-choice
returns-then-unseen-eq0-clause-choice c =
    let pool = c.self.inside.pool in
    let new : Slot = (c.in-Some.new.now, c.in-Some.new_frame.now) in
    let clean = is_clean_choice-seen pool new c.flags-in-loop-new.result c.is_clean-in-loop-new.result c.flags-in-loop-new.ensures c.is_clean-in-loop-new.ensures ∙ c.if-is_clean-2.true in
    let counted = rw clean at (count-first pool c.loop-new.new-iterator.a c.next.new.self.a new c.in-Some.ensures.steps.0 is_clean_choice) in
    let none : clean_count pool c.next.new.self.a ≡ 0 = omega (arith, c.loop-new.invariant.unseen, counted, c.if-unseen-eq0.true) in
    rw (← c.self.view_is, c.loop-new.invariant.in_newer, oldest-is_first pool c.loop-new.new-iterator.a c.next.new.self.a new c.in-Some.ensures.steps.0 is_clean_choice clean none) (λ i. Some (name_of (seen pool new)))

pub returns-then-unseen-eq0-clause-cache : goal.returns-then-unseen-eq0-clause-cache
returns-then-unseen-eq0-clause-cache c = rw (← c.self.view_is) (IsCache-sound c.self.inside.pool c.self.inside.reserved c.self.inside.order.entries c.self.inside.order.cap c.self.inside.index.entries c.self.invariant.0)

pub loop-new-init : goal.loop-new-init
loop-new-init c =
    let newer : c.into_iter-new-iterator.result.a ≡ c.self.inside.order.entries = ap (λ z. z.a) c.into_iter-new-iterator.ensures.into_iter_gives ∙ c.zip-new-items.ensures.first ∙ c.iter-2.ensures.rest in
    let older : c.into_iter-new-iterator.result.b.iter ≡ c.self.inside.order.entries =
    ap (λ z. z.b.iter) c.into_iter-new-iterator.ensures.into_iter_gives ∙ ap (λ r. r.iter) c.zip-new-items.ensures.second ∙ c.rev-from_old.ensures.source ∙ c.iter.ensures.rest in
    record {
      newer_taken = rw newer c.self.invariant.0.frames;
      older_taken = rw older c.self.invariant.0.frames;
      in_newer = rw newer refl;
      in_older = rw older refl;
      unseen = rw newer c.self.invariant.1;
    }

pub loop-new-preserved-else-unseen-eq0 : goal.loop-new-preserved-else-unseen-eq0
loop-new-preserved-else-unseen-eq0 c =
    let pool = c.self.inside.pool in
    let newer = c.next.new.self.a in
    let older = c.next.new.self.b.iter in
    let new : Slot = (c.in-Some.new.now, c.in-Some.new_frame.now) in
    let old : Slot = (c.in-Some.old.now, c.in-Some.old_frame.now) in
    let old_fails = is_clean_choice-seen pool old c.flags.result c.is_clean.result c.flags.ensures c.is_clean.ensures ∙ c.if-is_clean.false in
    let clean = is_clean_choice-seen pool new c.flags-in-loop-new.result c.is_clean-in-loop-new.result c.flags-in-loop-new.ensures c.is_clean-in-loop-new.ensures ∙ c.if-is_clean-2.true in
    let counted = rw clean at (count-first pool c.loop-new.new-iterator.a newer new c.in-Some.ensures.steps.0 is_clean_choice) in
    let left : c.loop-new.unseen - 1 ≡ clean_count pool newer = omega (arith, c.loop-new.invariant.unseen, counted) in
    record {
      newer_taken = AreTaken-behind pool c.loop-new.new-iterator.a newer new c.in-Some.ensures.steps.0 c.loop-new.invariant.newer_taken;
      older_taken = AreTaken-before pool c.loop-new.new-iterator.b.iter older old c.in-Some.ensures.steps.1 c.loop-new.invariant.older_taken;
      in_newer = c.loop-new.invariant.in_newer ∙ oldest-behind_more pool c.loop-new.new-iterator.a newer new c.in-Some.ensures.steps.0 is_clean_choice (omega (arith, left, c.if-unseen-eq0.false, c.loop-new.invariant.unseen, counted));
      in_older = c.loop-new.invariant.in_older ∙ oldest-before pool c.loop-new.new-iterator.b.iter older old c.in-Some.ensures.steps.1 is_clean_choice old_fails;
      unseen = left;
    }

pub loop-new-preserved : goal.loop-new-preserved
loop-new-preserved c =
    let pool = c.self.inside.pool in
    let newer = c.next.new.self.a in
    let older = c.next.new.self.b.iter in
    let new : Slot = (c.in-Some.new.now, c.in-Some.new_frame.now) in
    let old : Slot = (c.in-Some.old.now, c.in-Some.old_frame.now) in
    let old_fails = is_clean_choice-seen pool old c.flags.result c.is_clean.result c.flags.ensures c.is_clean.ensures ∙ c.if-is_clean.false in
    let new_fails = is_clean_choice-seen pool new c.flags-in-loop-new.result c.is_clean-in-loop-new.result c.flags-in-loop-new.ensures c.is_clean-in-loop-new.ensures ∙ c.if-is_clean-2.false in
    let counted = rw new_fails at (count-first pool c.loop-new.new-iterator.a newer new c.in-Some.ensures.steps.0 is_clean_choice) in
    record {
      newer_taken = AreTaken-behind pool c.loop-new.new-iterator.a newer new c.in-Some.ensures.steps.0 c.loop-new.invariant.newer_taken;
      older_taken = AreTaken-before pool c.loop-new.new-iterator.b.iter older old c.in-Some.ensures.steps.1 c.loop-new.invariant.older_taken;
      in_newer = c.loop-new.invariant.in_newer ∙ oldest-behind_failed pool c.loop-new.new-iterator.a newer new c.in-Some.ensures.steps.0 is_clean_choice new_fails;
      in_older = c.loop-new.invariant.in_older ∙ oldest-before pool c.loop-new.new-iterator.b.iter older old c.in-Some.ensures.steps.1 is_clean_choice old_fails;
      unseen = omega (arith, c.loop-new.invariant.unseen, counted);
    }

pub returns-clause-choice : goal.returns-clause-choice
returns-clause-choice c =
    elim c.in-None.ensures.steps [
      | inl newer ↦ rw (← c.self.view_is, c.loop-new.invariant.in_newer, newer.1.0) (λ i. None)
      | inr older ↦ rw (← c.self.view_is, c.loop-new.invariant.in_older, older.1.0) (λ i. None)
    ]

pub returns-clause-cache : goal.returns-clause-cache
returns-clause-cache c = rw (← c.self.view_is) (IsCache-sound c.self.inside.pool c.self.inside.reserved c.self.inside.order.entries c.self.inside.order.cap c.self.inside.index.entries c.self.invariant.0)
