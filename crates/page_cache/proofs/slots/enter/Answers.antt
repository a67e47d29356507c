use Rattle.std.proofs.Common.{◌∙◌, ap}
use Rattle.lru.specs.LruCache.{lru_cache}
use Rattle.page_cache.proofs.SlotLemmas.{put_entries-absent, remove_entry-front, IsIndex-entered}
use Rattle.page_cache.proofs.slots.enter.Goals as goal

pub returns-in-Ok-clause-order : goal.returns-in-Ok-clause-order
returns-in-Ok-clause-order c =
    c.in_ok-put.ensures.entries ∙ ap (λ es. lru_cache es c.args.order.now.cap) (put_entries-absent c.args.name c.args.order.now.entries c.args.order.now.cap c.args.frame c.requires.absent c.requires.room)

pub returns-in-Ok-clause-index : goal.returns-in-Ok-clause-index
returns-in-Ok-clause-index c =
    rw (c.in-Ok.ensures.entries, c.in_ok-put.ensures.entries, put_entries-absent c.args.name c.args.order.now.entries c.args.order.now.cap c.args.frame c.requires.absent c.requires.room)
    (IsIndex-entered c.args.index.now.entries c.args.order.now.entries c.requires.indexed c.args.name c.args.frame c.requires.absent)

pub returns-in-Err-clause-index : goal.returns-in-Err-clause-index
returns-in-Err-clause-index c =
    rw (c.in-Err.ensures.err, c.pop.ensures.entries, c.in_ok-put.ensures.entries, put_entries-absent c.args.name c.args.order.now.entries c.args.order.now.cap c.args.frame c.requires.absent c.requires.room, remove_entry-front c.args.name c.args.order.now.entries c.args.frame)
    c.requires.indexed

pub returns-in-Err-clause-err : goal.returns-in-Err-clause-err
returns-in-Err-clause-err c =
    rw (c.pop.ensures.entries, c.in_ok-put.ensures.entries, put_entries-absent c.args.name c.args.order.now.entries c.args.order.now.cap c.args.frame c.requires.absent c.requires.room)
    (ap (λ es. lru_cache es c.args.order.now.cap) (remove_entry-front c.args.name c.args.order.now.entries c.args.frame))
