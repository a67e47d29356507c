use Rattle.script_runs.specs.Setups.{setup_of}
use Rattle.script_runner.specs.Nodes.{made_shell}
use Rattle.script_runner.proofs.Threads.{threads_nodes}
use Rattle.test_runs.proofs.gates.run.Goals as goal

pub make_posts-requires : goal.make_posts-requires
make_posts-requires g c =
    let s = c.args.script.now in
    record { nodes = (made_shell s, setup_of s, threads_nodes s c.in_ok-nodes.nodes.items c.in_ok-nodes.ensures) }

pub run_all-requires-clause-posts : goal.run_all-requires-clause-posts
run_all-requires-clause-posts g c κs within =
    let s = c.args.script.now in
    (made_shell s, setup_of s, c.plan.result.now, c.in_ok-posts.ensures.posts c.args.last_tick c.requires.least (made_shell s) (setup_of s) (threads_nodes s c.in_ok-nodes.nodes.items c.in_ok-nodes.ensures))
