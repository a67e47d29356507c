use Rattle.std.proofs.Common.{rules}
use Rattle.std.proofs.lemmas.List.Sorted.{answers_always}
use Rattle.object_store.proofs.RowLemmas.{placed}
use Rattle.object_store.proofs.rows.position.Goals as goal

-- the closure gives a row's counter
pub returns : goal.returns
returns c =
    let facts = c.binary_search_by_key.ensures in
    let by_counter = facts.position (λ row. row.counter) (answers_always _ _ _ (λ f a r g called. search rules)) in
    placed c.args.rows.now c.args.counter c.binary_search_by_key.result c.ok.result c.requires facts.bound by_counter c.ok.ensures.value
