use Rattle.std.proofs.Common.{rules}
use Rattle.std.proofs.lemmas.List.Sorted.{answers_always}
use Rattle.uid_names.specs.Names.{uid_lt}
use Rattle.uid_names.specs.Tables.{is_row_of}
use Rattle.uid_names.proofs.InOrder.{IsSearch}
use Rattle.uid_names.proofs.Tables.{found-search}
use Rattle.uid_names.proofs.table.search.Given.{Over}
use Rattle.uid_names.proofs.table.search.Goals as goal

-- the closure gives a row's object
answer : (g : Over) (c : goal.After-binary_search_by_key g)
    → IsSearch (λ row. uid_lt (g.R.UidRow.name row) c.args.uid) (is_row_of g.R.UidRow.name c.args.uid) c.args.rows.now c.binary_search_by_key.result
answer g c =
    let facts = c.binary_search_by_key.ensures in
    let by_uid = facts.position g.R.UidRow.name (answers_always _ _ _ (λ f a r h called. search rules)) in
    found-search g.R.UidRow.name c.args.uid c.args.rows.now c.binary_search_by_key.result c.requires facts.bound by_uid

pub returns-clause-place : goal.returns-clause-place
returns-clause-place g c = (answer g c).place

pub returns-clause-found : goal.returns-clause-found
returns-clause-found g c = (answer g c).found
