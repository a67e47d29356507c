use Rattle.std.proofs.Common.{rules}
use Rattle.std.proofs.lemmas.List.Sorted.{answers_always}
use Rattle.uid_names.specs.Rows.{is_before, same_row}
use Rattle.uid_names.proofs.InOrder.{IsSearch}
use Rattle.lock_manager.proofs.Places.{found-search}
use Rattle.lock_manager.proofs.grants.search.Goals as goal

-- the closure gives the object and the process of a grant
answer : (c : goal.After-binary_search_by_key) → IsSearch (λ g. is_before g.row c.args.uid c.args.proc) (λ g. same_row c.args.proc c.args.uid g.row) c.args.grants.now c.binary_search_by_key.result
answer c =
    let facts = c.binary_search_by_key.ensures in
    let by_names = facts.position (λ g. (g.row.uid, g.row.proc)) (answers_always _ _ _ (λ f a r g called. search rules)) in
    found-search c.args.proc c.args.uid c.args.grants.now c.binary_search_by_key.result c.requires facts.bound by_names

pub returns-clause-place : goal.returns-clause-place
returns-clause-place c = (answer c).place

pub returns-clause-found : goal.returns-clause-found
returns-clause-found c = (answer c).found
