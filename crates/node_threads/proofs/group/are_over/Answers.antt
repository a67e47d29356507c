use Rattle.std.proofs.Common.{true, false, sym, ◌∙◌}
use Rattle.node_threads.proofs.Scanning.{ended-step, ended-each}
use Rattle.node_threads.proofs.group.are_over.Goals as goal

pub returns-then-not-is_over : goal.returns-then-not-is_over
returns-then-not-is_over g c =
    sym (ended-step c.args.posts.now c.loop-post.post-index c.loop-post.invariant c.post-item.result c.loop-post-test.true c.post-item.is false (sym c.is_over.ensures ∙ c.if-not-is_over.true))

pub loop-post-preserved : goal.loop-post-preserved
loop-post-preserved g c =
    ended-step c.args.posts.now c.loop-post.post-index c.loop-post.invariant c.post-item.result c.loop-post-test.true c.post-item.is true (sym c.is_over.ensures ∙ c.if-not-is_over.false)

pub returns : goal.returns
returns g c = sym (ended-each c.args.posts.now c.loop-post.post-index c.loop-post.invariant c.loop-post-test.false)
