use Rattle.std.proofs.Common.{Some, None, sym}
use Rattle.node_threads.proofs.Scanning.{first-step, first-none}
use Rattle.node_threads.proofs.run.lowest_fault.Goals as goal

pub returns-in-Some : goal.returns-in-Some
returns-in-Some g c =
    sym (first-step c.args.posts.now c.loop-post.post-index c.loop-post.invariant c.post-item.result c.loop-post-test.true c.post-item.is (Some c.in-Some.fault) c.in-Some.is)

pub loop-post-preserved : goal.loop-post-preserved
loop-post-preserved g c =
    first-step c.args.posts.now c.loop-post.post-index c.loop-post.invariant c.post-item.result c.loop-post-test.true c.post-item.is None c.in_default.is

pub returns : goal.returns
returns g c = sym (first-none c.args.posts.now c.loop-post.post-index c.loop-post.invariant c.loop-post-test.false)
