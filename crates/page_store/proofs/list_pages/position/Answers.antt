use Rattle.std.proofs.Common.{rules}
use Rattle.std.proofs.lemmas.List.Sorted.{answers_always}
use Rattle.page_store.specs.Rows.{name_of}
use Rattle.page_store.proofs.Listed.{placed}
use Rattle.page_store.proofs.list_pages.position.Goals as goal

-- the closure gives a row's name
pub returns : goal.returns
returns c =
    let facts = c.binary_search_by_key.ensures in
    let by_name = facts.position name_of (answers_always _ _ _ (λ f a r g called. search rules)) in
    placed c.args.rows.now (c.args.counter, c.args.page) c.binary_search_by_key.result c.requires facts.bound by_name
