use Rattle.page_store.proofs.Listed.{volume_of-nil}
use Rattle.page_store.proofs.list_pages.ListPages.new.Goals as goal

pub returns : goal.returns
returns c = rw c.new.ensures.items volume_of-nil
