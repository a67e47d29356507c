use Rattle.std.proofs.Common.{arith, subst}
use Rattle.std.proofs.lemmas.Result.{IfOk-weaker}
use Rattle.std.specs.Prelude.{◌^◌}
use Rattle.count_up.specs.Counting.{made_counter, counting}
use Rattle.node_threads.specs.Ran.{HaveRun}
use Rattle.count_up.specs.Counters.{want_of, counter_after}
use Rattle.count_up.specs.Sums.{HaveSeen}
use Rattle.count_up.proofs.Counted.{counts_up}
use Rattle.count_up.proofs.Ending.{by_threads_ended}
use Rattle.count_up.proofs.Setting.{as_posts}
use Rattle.count_up.proofs.runs.by_threads.Goals as goal

pub make_posts-requires : goal.make_posts-requires
make_posts-requires g c = record { nodes = (made_counter c.args.rounds, counting c.args.rounds, as_posts c.args.rounds c.in_ok-nodes.nodes.items c.in_ok-nodes.ensures) }

pub run_all-requires-clause-posts : goal.run_all-requires-clause-posts
run_all-requires-clause-posts g c κs within =
    let rounds = c.args.rounds in (
      made_counter rounds,
      counting rounds,
      c.new-plan.result,
      c.in_ok-posts.ensures.posts (2 ^ 40) (omega arith) (made_counter rounds) (counting rounds) (as_posts rounds c.in_ok-nodes.nodes.items c.in_ok-nodes.ensures),
    )

pub merge-requires : goal.merge-requires
merge-requires g c =
    let rounds = c.args.rounds in
    let ran = c.in_ok-logs.ensures.run (made_counter rounds) (counting rounds) c.new-plan.result
    (c.in_ok-posts.ensures.posts (2 ^ 40) (omega arith) (made_counter rounds) (counting rounds) (as_posts rounds c.in_ok-nodes.nodes.items c.in_ok-nodes.ensures)) in
    c.logs_of_local_runs_may_be_merged.ensures (counting rounds) ran.owns ran.worlds c.in_ok-logs.logs.items ran.runs.runs ran.runs.logs_of ran.runs.apart

pub returns-clause-run : goal.returns-clause-run
returns-clause-run g c =
    let rounds = c.args.rounds in
    let ran = c.in_ok-logs.ensures.run (made_counter rounds) (counting rounds) c.new-plan.result
    (c.in_ok-posts.ensures.posts (2 ^ 40) (omega arith) (made_counter rounds) (counting rounds) (as_posts rounds c.in_ok-nodes.nodes.items c.in_ok-nodes.ensures)) in
    let own = subst (λ plan. HaveRun want_of counter_after (made_counter rounds) (counting rounds) plan c.in_ok-logs.logs.items c.in_ok-logs.counters.items) c.new-plan.ensures ran in
    IfOk-weaker c.seen_by_all.result _ _
    (λ sum seen.
    by_threads_ended c.every_run_is_right.ensures.timely rounds sum c.in_ok-logs.logs.items c.in_ok-merge.field-0.events c.in_ok-logs.counters.items own c.in_ok-merge.ensures.merged
    (subst (HaveSeen sum) c.as_slice.ensures.value seen)) c.seen_by_all.ensures

pub returns-clause-sum : goal.returns-clause-sum
returns-clause-sum g c =
    let rounds = c.args.rounds in
    let ran = c.in_ok-logs.ensures.run (made_counter rounds) (counting rounds) c.new-plan.result
    (c.in_ok-posts.ensures.posts (2 ^ 40) (omega arith) (made_counter rounds) (counting rounds) (as_posts rounds c.in_ok-nodes.nodes.items c.in_ok-nodes.ensures)) in
    let own = subst (λ plan. HaveRun want_of counter_after (made_counter rounds) (counting rounds) plan c.in_ok-logs.logs.items c.in_ok-logs.counters.items) c.new-plan.ensures ran in
    IfOk-weaker c.seen_by_all.result _ _
    (λ sum seen some.
    counts_up c.an_ended_run_ends_its_programs.ensures.history rounds sum (λ is. absurd (omega (arith, is, some))) (omega (arith, c.ranges.rounds.fits))
    (by_threads_ended c.every_run_is_right.ensures.timely rounds sum c.in_ok-logs.logs.items c.in_ok-merge.field-0.events c.in_ok-logs.counters.items own c.in_ok-merge.ensures.merged
    (subst (HaveSeen sum) c.as_slice.ensures.value seen))) c.seen_by_all.ensures
