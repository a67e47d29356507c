use Rattle.std.proofs.Common.{Err, ap, subst}
use Rattle.uid_names.specs.Openings.{IsStart}
use Rattle.node_core.specs.declared.fault.RunFault.TheVariants.{TickLimit}
use Rattle.world_core.proofs.OnOks.{same_fault}
use Rattle.script_runs.specs.Setups.{setup_of}
use Rattle.script_runner.specs.Nodes.{made_shell}
use Rattle.script_runner.proofs.RanNodes.{shells_of_threads}
use Rattle.script_runner.proofs.Threads.{threads_nodes, by_its_plan, threads_limit}
use Rattle.script_runner.proofs.run.run_in_threads.Goals as goal

pub make_posts-requires : goal.make_posts-requires
make_posts-requires g c =
    let s = c.args.script.now in
    record { nodes = (made_shell s, setup_of s, threads_nodes s c.in_ok-nodes.nodes.items c.in_ok-nodes.ensures) }

pub run_all-requires-clause-posts : goal.run_all-requires-clause-posts
run_all-requires-clause-posts g c κs within =
    let s = c.args.script.now in
    (made_shell s, setup_of s, c.plan.result.now, c.in_ok-posts.ensures.posts c.args.last_tick c.requires.some (made_shell s) (setup_of s) (threads_nodes s c.in_ok-nodes.nodes.items c.in_ok-nodes.ensures))

pub returns-in_err-logs-clause-limit : goal.returns-in_err-logs-clause-limit
returns-in_err-logs-clause-limit g c =
    let s = c.args.script.now in
    threads_limit s c.args.last_tick c.plan.result.now c.plan.ensures.value c.from_residual-in_err-logs.result
    (λ n fails.
    let same = same_fault c.from_residual-in_err-logs.result c.in_err-logs.field-0.0 (TickLimit n) c.from_residual-in_err-logs.ensures.1 fails in
    c.in_err-logs.ensures.limit n (ap Err same) (made_shell s) (setup_of s) c.plan.result.now
    (c.in_ok-posts.ensures.posts c.args.last_tick c.requires.some (made_shell s) (setup_of s) (threads_nodes s c.in_ok-nodes.nodes.items c.in_ok-nodes.ensures)))

pub merge-requires : goal.merge-requires
merge-requires g c =
    let s = c.args.script.now in
    let ran = c.in_ok-logs.ensures.run (made_shell s) (setup_of s) c.plan.result.now
    (c.in_ok-posts.ensures.posts c.args.last_tick c.requires.some (made_shell s) (setup_of s) (threads_nodes s c.in_ok-nodes.nodes.items c.in_ok-nodes.ensures)) in
    c.logs_of_local_runs_may_be_merged.ensures (setup_of s) ran.owns ran.worlds c.in_ok-logs.logs.items ran.runs.runs ran.runs.logs_of ran.runs.apart

pub returns-clause-run : goal.returns-clause-run
returns-clause-run g c =
    let s = c.args.script.now in
    let own = by_its_plan s c.plan.result.now c.plan.ensures.value c.in_ok-logs.logs.items c.in_ok-logs.shells.items
    (c.in_ok-logs.ensures.run (made_shell s) (setup_of s) c.plan.result.now
    (c.in_ok-posts.ensures.posts c.args.last_tick c.requires.some (made_shell s) (setup_of s) (threads_nodes s c.in_ok-nodes.nodes.items c.in_ok-nodes.ensures))) in
    let setup = c.scripts_set_nodes_up.ensures s c.opening.ensures.content (subst IsStart c.opening.ensures.value c.nodes-start.ensures.start) in
    shells_of_threads s c.opening.ensures.content c.args.last_tick c.in_ok-logs.logs.items c.in_ok-events.events.events c.in_ok-logs.shells.items own
    (own.merged setup c.opening.ensures.content.draft.plan c.in_ok-events.events.events c.in_ok-events.ensures.merged)
