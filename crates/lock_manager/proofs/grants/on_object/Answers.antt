use Rattle.std.proofs.Common.{◌≡◌, take, drop, length, ◌-◌, ◌∙◌, ap, sym, subst, rules}
use Rattle.std.specs.Prelude.{IsTrue, AllPairs, not, filter}
use Rattle.std.proofs.lemmas.List.{take_rest}
use Rattle.std.proofs.lemmas.List.Kept.{AllPairs-filter}
use Rattle.std.proofs.lemmas.List.Sorted.{IsPartitionPoint-from_clause}
use Rattle.uid_names.specs.Names.{uid_lt}
use Rattle.lock_manager.specs.declared.grants.Grant.{Grant}
use Rattle.uid_names.specs.Rows.{row_lt}
use Rattle.lock_manager.specs.Grants.{is_on}
use Rattle.uid_names.proofs.Orders.{uid_lt-before, not_uid_lt-before, same_uid-between}
use Rattle.uid_names.proofs.Finds.{filter-filter}
use Rattle.uid_names.proofs.InOrder.{partitioned, prefix_len-point, filter-front, filter-rest}
use Rattle.lock_manager.proofs.grants.on_object.Goals as goal

pub returns : goal.returns
returns c =
    let u = c.args.uid in
    let grants = c.args.grants.now in
    let Before = λ (a b : Grant). IsTrue (row_lt a.row b.row) in
    let below = λ (g : Grant). uid_lt g.row.uid u in
    let not_above = λ (g : Grant). not (uid_lt u g.row.uid) in
    let below-before = λ (a b : Grant). uid_lt-before a.row b.row u in
    let first = prefix_len-point below grants c.partition_point-first.result c.partition_point-first.ensures.bound
    (IsPartitionPoint-from_clause below grants _ c.partition_point-first.ensures.partitioned (partitioned Before below below-before grants c.requires) (λ a r f called. search rules)) in
    let others = take (length grants - c.partition_point-first.result) (drop c.partition_point-first.result grants) in
    let rest : others ≡ filter (λ g. not (below g)) grants =
    take_rest grants c.partition_point-first.result ∙ (ap (λ n. drop n grants) (sym first) ∙ sym (filter-rest Before below below-before grants c.requires)) in
    let rising : AllPairs Before others = subst (AllPairs Before) (sym rest) (AllPairs-filter Before (λ g. not (below g)) grants c.requires) in
    let not_above-before = λ (a b : Grant). not_uid_lt-before a.row b.row u in
    let second = prefix_len-point not_above others c.partition_point-count.result c.partition_point-count.ensures.bound
    (IsPartitionPoint-from_clause not_above others _ c.partition_point-count.ensures.partitioned (partitioned Before not_above not_above-before others rising) (λ a r f called. search rules)) in
    ap (λ n. take n others) (sym second)
    ∙ (sym (filter-front Before not_above not_above-before others rising)
    ∙ (ap (filter not_above) rest ∙ filter-filter not_above (λ g. not (below g)) (is_on u) grants (λ g. same_uid-between u g.row.uid)))
