use Rattle.std.proofs.Common.{rules, refl, sym}
use Rattle.std.specs.Prelude.{IsTrue, not, Some, None}
use Rattle.std.proofs.lemmas.List.{take_rest}
use Rattle.std.proofs.lemmas.List.Sorted.{IsPartitionPoint-from_clause}
use Rattle.lock_manager.specs.declared.grants.Grant.{Grant}
use Rattle.uid_names.specs.Rows.{row_lt, is_after}
use Rattle.uid_names.proofs.Orders.{not_after-trans}
use Rattle.uid_names.proofs.Finds.{filter-all, filter-alike, not-not}
use Rattle.uid_names.proofs.ListLemmas.{filter-map}
use Rattle.uid_names.proofs.InOrder.{partitioned, prefix_len-point, filter-rest}
use Rattle.lock_manager.specs.Grants.{rows_of}
use Rattle.lock_manager.proofs.grants.behind.Goals as goal

pub returns-in-Some : goal.returns-in-Some
returns-in-Some c =
    let u = c.in-Some.uid in
    let p = c.in-Some.proc in
    let grants = c.args.grants.now in
    let Before = λ (a b : Grant). IsTrue (row_lt a.row b.row) in
    let not_after = λ (g : Grant). not (is_after (Some (u, p)) g.row) in
    let before = λ (a b : Grant). not_after-trans a.row b.row u p in
    let first = prefix_len-point not_after grants c.partition_point-first.result c.partition_point-first.ensures.bound
    (IsPartitionPoint-from_clause not_after grants _ c.partition_point-first.ensures.partitioned (partitioned Before not_after before grants c.requires) (λ a r f called. search rules)) in
    rw (c.in-Some.is, take_rest, filter-map (λ (g : Grant). g.row) (is_after (Some (u, p))) grants, ← filter-alike (λ g. not (not_after g)) (λ g. is_after (Some (u, p)) g.row) grants (λ g. not-not (is_after (Some (u, p)) g.row)), filter-rest Before not_after before grants c.requires, first) refl

-- where no row is named, all stand behind
pub returns-in-None : goal.returns-in-None
returns-in-None c = rw c.in-None.is (sym (filter-all (is_after None) (rows_of c.args.grants.now) (λ k d below. refl)))
