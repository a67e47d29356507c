use Rattle.std.proofs.Common.{true, false, sym, ◌∙◌}
use Rattle.node_threads.proofs.Scanning.{fault-step, fault-none}
use Rattle.node_threads.proofs.group.has_fault.Goals as goal

pub returns-then-is_some : goal.returns-then-is_some
returns-then-is_some g c =
    sym (fault-step c.args.posts.now c.loop-post.post-index c.loop-post.invariant c.post-item.result c.loop-post-test.true c.post-item.is true (sym c.is_some.ensures ∙ c.if-is_some.true))

pub loop-post-preserved : goal.loop-post-preserved
loop-post-preserved g c =
    fault-step c.args.posts.now c.loop-post.post-index c.loop-post.invariant c.post-item.result c.loop-post-test.true c.post-item.is false (sym c.is_some.ensures ∙ c.if-is_some.false)

pub returns : goal.returns
returns g c = sym (fault-none c.args.posts.now c.loop-post.post-index c.loop-post.invariant c.loop-post-test.false)
