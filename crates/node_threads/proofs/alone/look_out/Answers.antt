use Rattle.node_posts.proofs.Going.{goes-same, goes-then}
use Rattle.node_threads.proofs.alone.look_out.Goals as goal

pub loop-init : goal.loop-init
loop-init g c limit most = goes-same g.P.Program.wants g.P.Program.becomes limit c.args.post.now

pub loop-preserved : goal.loop-preserved
loop-preserved g c limit most =
    goes-then g.P.Program.wants g.P.Program.becomes limit c.args.post.now c.loop.post c.has_incoming.new.self (c.loop.invariant limit most) (c.has_incoming.ensures.goes limit most)

pub returns-then-is_set : goal.returns-then-is_set
returns-then-is_set g c limit most = c.loop.invariant limit most

pub returns-then-has_incoming : goal.returns-then-has_incoming
returns-then-has_incoming g c limit most =
    goes-then g.P.Program.wants g.P.Program.becomes limit c.args.post.now c.loop.post c.has_incoming.new.self (c.loop.invariant limit most) (c.has_incoming.ensures.goes limit most)
