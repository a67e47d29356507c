use Rattle.std.proofs.Common.{◌<◌, ◌-◌, length, arith}
use Rattle.page_frames.proofs.PoolLemmas.{free_count-fields, frame_at-vacant, pool_of-taken, IsSound-taken}
use Rattle.slab.specs.Slab.{slab_len}
use Rattle.page_frames.specs.Pools.{no_flags}
use Rattle.page_frames.proofs.pool.Frames.take.Goals as goal

pub insert_reserved-key-requires : goal.insert_reserved-key-requires
insert_reserved-key-requires c = omega (arith, free_count-fields c.self.inside.count c.self.inside.numbers c.self.inside.pages.items c.args.self.now c.self.view_is, c.self.invariant.room)

pub invariant_of-self : goal.invariant_of-self
invariant_of-self c =
    let free : 0 < c.self.inside.count - slab_len c.self.inside.numbers = rw (free_count-fields c.self.inside.count c.self.inside.numbers c.self.inside.pages.items c.args.self.now c.self.view_is) at c.requires in
    IsSound-taken c.self.inside.count c.self.inside.numbers c.insert_reserved-key.new.self c.self.inside.pages.items c.insert_reserved-key.result c.args.bytes.now no_flags c.self.invariant
    free c.insert_reserved-key.ensures.len c.insert_reserved-key.ensures.capacity c.insert_reserved-key.ensures.key_in_range c.insert_reserved-key.ensures.updates

pub returns-clause-free : goal.returns-clause-free
returns-clause-free c = frame_at-vacant c.self.inside.count c.self.inside.numbers c.self.inside.pages.items c.args.self.now c.self.view_is c.insert_reserved-key.result c.insert_reserved-key.ensures.was_vacant

pub returns-clause-taken : goal.returns-clause-taken
returns-clause-taken c =
    let within : c.insert_reserved-key.result < length c.self.inside.pages.items = omega (arith, c.insert_reserved-key.ensures.key_in_range, c.insert_reserved-key.ensures.capacity) in
    pool_of-taken c.self.inside.count c.self.inside.numbers c.self.inside.pages.items c.args.self.now c.self.view_is c.insert_reserved-key.new.self c.insert_reserved-key.result c.args.bytes.now within c.insert_reserved-key.ensures.updates
