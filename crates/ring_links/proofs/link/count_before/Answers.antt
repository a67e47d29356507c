use Rattle.std.proofs.Common.{◌≤◌, length, sym, rules, arith}
use Rattle.std.specs.Prelude.{IsTrue}
use Rattle.std.proofs.lemmas.List.Sorted.{IsPartitionPoint-from_clause}
use Rattle.uid_names.proofs.InOrder.{partitioned, prefix_len-point}
use Rattle.ring_links.specs.declared.link.Later.{Later}
use Rattle.ring_links.specs.Later.{is_before, falls_before}
use Rattle.ring_links.proofs.Falling.{before-it}
use Rattle.ring_links.proofs.link.count_before.Goals as goal

-- what falls before one that falls before the copy does so too
pub returns-clause-place : goal.returns-clause-place
returns-clause-place g c =
    let test = λ (x : Later g.row.T.Denot). is_before c.args.behind c.args.index x in
    let Before = λ (a b : Later g.row.T.Denot). IsTrue (falls_before a b) in
    let before = λ (a b : Later g.row.T.Denot). before-it a b c.args.behind c.args.index in
    let cs = c.args.later.now.items in
    let bound : c.partition_point.result ≤ length cs = omega (arith, c.partition_point.ensures.bound, c.args.later.now.ok) in
    sym (prefix_len-point test cs c.partition_point.result bound
    (IsPartitionPoint-from_clause test cs _ c.partition_point.ensures.partitioned (partitioned Before test before cs c.requires) (λ a r f called. search rules)))
