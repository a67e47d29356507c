use Rattle.std.proofs.Common.{◌≡◌, ◌∙◌, List, map, filter, ap, sym, true, false, arith}
use Rattle.std.specs.BTreeMap.Range.{entries_between}
use Rattle.page_frames.specs.Pools.{frame_in}
use Rattle.page_cache.specs.Numbers.{numbers, is_dirty_of, least}
use Rattle.page_cache.specs.Insides.{Slot, name_cmp, is_between, slot_in, seen}
use Rattle.uid_names.proofs.ListLemmas.{count_by-filter-le}
use Rattle.page_cache.proofs.NumberLemmas.{least-same}
use Rattle.page_cache.proofs.IndexLemmas.{page_of, part_of, copies-dirty, IsFrom-part_of, least_dirty-first, least_dirty-behind, IsFrom-behind}
use Rattle.page_cache.proofs.LoopLemmas.{AreTaken-behind}
use Rattle.page_cache.proofs.PageLemmas.{IsResident-dirty}
use Rattle.page_cache.proofs.cache.Cache.dirty_of.Goals as goal

pub loop-name-init : goal.loop-name-init
loop-name-init c =
    let index = c.self.inside.index.entries in
    let part : c.into_iter-name-iterator.result ≡ part_of c.args.uid index =
    c.into_iter-name-iterator.ensures.into_iter_gives ∙ c.range-name-items.ensures.between tt ∙ ap (λ ends. entries_between name_cmp ends.0 ends.1 index) c.names_of.ensures in
    record {
      taken = λ frame. rw part (omega (
        arith,
        count_by-filter-le (slot_in frame) (λ (s : Slot). is_between c.args.uid s.0) index,
        c.self.invariant.0.indexed (slot_in frame),
        c.self.invariant.0.frames frame,
      ));
      rising = rw part (IsFrom-part_of c.args.uid index c.range-name-items.ensures.ordered);
      left = rw part
          (least-same (numbers (is_dirty_of c.args.uid) (map (seen c.self.inside.pool) c.self.inside.order.entries))
          (map page_of (filter (λ s. (frame_in c.self.inside.pool s.1).flags.dirty) (part_of c.args.uid index))) (λ k. sym (copies-dirty c.self.inside.pool index c.self.inside.order.entries c.self.invariant.0.indexed c.self.invariant.0.numbered c.args.uid k)));
    }

pub loop-name-preserved : goal.loop-name-preserved
loop-name-preserved c =
    let pool = c.self.inside.pool in
    let all = c.loop-name.name-iterator in
    let rest = c.next.new.self in
    let slot : Slot = (c.in-Some.name.now, c.in-Some.frame.now) in
    let clean : (frame_in pool slot.1).flags.dirty ≡ false = ap (λ f. f.dirty) (sym c.flags.ensures) ∙ c.if-flags.false in
    record {
      taken = AreTaken-behind pool all rest slot c.in-Some.ensures.steps c.loop-name.invariant.taken;
      rising = IsFrom-behind pool all rest slot c.in-Some.ensures.steps c.loop-name.invariant.rising;
      left = c.loop-name.invariant.left ∙ least_dirty-behind pool all rest slot c.in-Some.ensures.steps clean;
    }

pub returns-then-flags-clause-lowest : goal.returns-then-flags-clause-lowest
returns-then-flags-clause-lowest c =
    let pool = c.self.inside.pool in
    let slot : Slot = (c.in-Some.name.now, c.in-Some.frame.now) in
    let dirty : (frame_in pool slot.1).flags.dirty ≡ true = ap (λ f. f.dirty) (sym c.flags.ensures) ∙ c.if-flags.true in
    rw (← c.self.view_is) (sym (c.loop-name.invariant.left ∙ least_dirty-first pool c.loop-name.name-iterator c.next.new.self slot c.in-Some.ensures.steps dirty c.loop-name.invariant.rising))

pub returns-then-flags-clause-resident : goal.returns-then-flags-clause-resident
returns-then-flags-clause-resident c =
    let pool = c.self.inside.pool in
    let slot : Slot = (c.in-Some.name.now, c.in-Some.frame.now) in
    let dirty : (frame_in pool slot.1).flags.dirty ≡ true = ap (λ f. f.dirty) (sym c.flags.ensures) ∙ c.if-flags.true in
    rw (← c.self.view_is)
    (IsResident-dirty (map (seen pool) c.self.inside.order.entries) c.args.uid slot.0.page (c.loop-name.invariant.left ∙ least_dirty-first pool c.loop-name.name-iterator c.next.new.self slot c.in-Some.ensures.steps dirty c.loop-name.invariant.rising))

pub returns-clause-lowest : goal.returns-clause-lowest
returns-clause-lowest c =
    rw (← c.self.view_is)
    (sym (c.loop-name.invariant.left ∙ ap (λ (slots : List Slot). least (map page_of (filter (λ s. (frame_in c.self.inside.pool s.1).flags.dirty) slots))) c.in-None.ensures.steps.0))
