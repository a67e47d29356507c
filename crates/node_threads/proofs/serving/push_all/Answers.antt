use Rattle.node_posts.proofs.Going.{goes-same, goes-then}
use Rattle.node_threads.proofs.serving.push_all.Goals as goal

pub loop-at-init : goal.loop-at-init
loop-at-init g c limit most = goes-same g.P.Program.wants g.P.Program.becomes limit c.args.post.now

pub loop-at-preserved : goal.loop-at-preserved
loop-at-preserved g c limit most =
    goes-then g.P.Program.wants g.P.Program.becomes limit c.args.post.now c.loop-at.post c.flush.new.self (c.loop-at.invariant limit most) (c.flush.ensures.goes limit most)
