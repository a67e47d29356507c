use Rattle.std.proofs.Common.{◌∙◌, sym, ap}
use Rattle.std.proofs.lemmas.List.{get_or_default}
use Rattle.slab.specs.Slab.{get}
use Rattle.page_store.specs.Stored.{no_block}
use Rattle.page_store.proofs.blocks.Blocks.store.Goals as goal

pub returns-clause-free : goal.returns-clause-free
returns-clause-free c =
    let blocks = c.block_with_room.new.self.blocks.items in
    let key = c.insert_reserved-key.result in
    let is = c.index_mut.ensures.value ∙ get_or_default blocks c.in_ok-block.block c.index_mut.result.now no_block c.in_ok-block.ensures.within in
    sym (c.in_ok-block.ensures.stored (record { block = c.in_ok-block.block; key = key })) ∙ ap (λ b. get b key) (sym is) ∙ c.insert_reserved-key.ensures.was_vacant
