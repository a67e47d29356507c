use Rattle.node_posts.proofs.Going.{goes-same, goes-then}
use Rattle.node_posts.proofs.post.Post.has_incoming.Goals as goal

pub loop-at-init : goal.loop-at-init
loop-at-init g c limit most = goes-same g.P.Program.wants g.P.Program.becomes limit c.args.self.now

pub loop-at-preserved : goal.loop-at-preserved
loop-at-preserved g c limit most =
    goes-then g.P.Program.wants g.P.Program.becomes limit c.args.self.now c.loop-at.self c.waits.new.self (c.loop-at.invariant limit most) (c.waits.ensures.goes limit most)

pub returns-then-waits : goal.returns-then-waits
returns-then-waits g c = record {
  goes = λ limit most.
      goes-then g.P.Program.wants g.P.Program.becomes limit c.args.self.now c.loop-at.self c.waits.new.self (c.loop-at.invariant limit most) (c.waits.ensures.goes limit most);
}
