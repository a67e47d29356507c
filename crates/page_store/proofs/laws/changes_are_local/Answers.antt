use Rattle.page_store.proofs.VolumeLemmas.{page_of-no_pages, page_of-with_page, page_of-without_object}
use Rattle.page_store.proofs.laws.changes_are_local.Goals as goal

pub returns : goal.returns
returns c = record { empty = page_of-no_pages; put = page_of-with_page; dropped = page_of-without_object }
