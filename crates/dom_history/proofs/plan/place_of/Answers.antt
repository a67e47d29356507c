use Rattle.std.proofs.Common.{rules}
use Rattle.std.proofs.lemmas.List.Sorted.{answers_always}
use Rattle.dom_history.specs.declared.plan.FateRow.{FateRow}
use Rattle.dom_history.proofs.LinkRows.{found-number, ok-place, err-place}
use Rattle.dom_history.proofs.plan.place_of.Goals as goal

-- the closure gives a row's number
pub returns-in-Ok-clause-place : goal.returns-in-Ok-clause-place
returns-in-Ok-clause-place c =
    let facts = c.binary_search_by_key.ensures in
    let by_number = facts.position (λ (row : FateRow). row.index) (answers_always _ _ _ (λ f a r h called. search rules)) in
    ok-place c.binary_search_by_key.result c.in-Ok.at _ c.in-Ok.is (found-number c.args.index c.args.rows.now c.binary_search_by_key.result c.requires facts.bound by_number).place

pub returns-in-Err-clause-place : goal.returns-in-Err-clause-place
returns-in-Err-clause-place c =
    let facts = c.binary_search_by_key.ensures in
    let by_number = facts.position (λ (row : FateRow). row.index) (answers_always _ _ _ (λ f a r h called. search rules)) in
    err-place c.binary_search_by_key.result c.in-Err.at _ c.in-Err.is (found-number c.args.index c.args.rows.now c.binary_search_by_key.result c.requires facts.bound by_number).place
