use Rattle.std.proofs.Common.{◌≤◌, ◌∙◌, count_by, ap, arith}
use Rattle.lru.specs.LruCache.{lru_cache}
use Rattle.page_cache.specs.Insides.{slot_is}
use Rattle.page_cache.proofs.SlotLemmas.{lookup-page, remove_entry-page, remove_entry-index, IsIndex-filter}
use Rattle.page_cache.proofs.slots.leave.Goals as goal

pub returns-clause-frame : goal.returns-clause-frame
returns-clause-frame c = c.pop.ensures.value ∙ lookup-page c.args.name c.args.order.now.entries

pub returns-clause-order : goal.returns-clause-order
returns-clause-order c = c.pop.ensures.entries ∙ ap (λ es. lru_cache es c.args.order.now.cap) (remove_entry-page c.args.name c.args.order.now.entries c.requires.once)

pub returns-clause-index : goal.returns-clause-index
returns-clause-index c =
    let once : count_by (slot_is c.args.name.uid c.args.name.page) c.args.index.now.entries ≤ 1 = omega (arith, c.requires.indexed (slot_is c.args.name.uid c.args.name.page), c.requires.once) in
    rw (c.remove.ensures.entries, remove_entry-index c.args.name c.args.index.now.entries once, c.pop.ensures.entries, remove_entry-page c.args.name c.args.order.now.entries c.requires.once)
    (IsIndex-filter c.args.index.now.entries c.args.order.now.entries c.requires.indexed _)
