use Rattle.page_store.proofs.HousedLemmas.{IsHoused-empty, volume_of-empty}
use Rattle.page_store.proofs.block_pages.BlockPages.new.Goals as goal

pub invariant_of-result : goal.invariant_of-result
invariant_of-result c = rw c.new.ensures (IsHoused-empty c.new-2.result.blocks.items)

pub returns : goal.returns
returns c = rw c.new.ensures (volume_of-empty c.new-2.result.blocks.items)
