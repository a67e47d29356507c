use Rattle.node_posts.proofs.Going.{goes-same, goes-then, run-goes}
use Rattle.node_posts.proofs.post.Post.take_all.Goals as goal

pub loop-at-init : goal.loop-at-init
loop-at-init g c = goes-same g.P.Program.wants g.P.Program.becomes c.args.last_tick c.args.self.now

pub take_some-took-requires-clause-run : goal.take_some-took-requires-clause-run
take_some-took-requires-clause-run g c = run-goes g.P.Program.wants g.P.Program.becomes c.args.last_tick c.args.self.now c.loop-at.self c.requires.run c.loop-at.invariant

pub loop-at-preserved : goal.loop-at-preserved
loop-at-preserved g c = goes-then g.P.Program.wants g.P.Program.becomes c.args.last_tick c.args.self.now c.loop-at.self c.take_some-took.new.self c.loop-at.invariant c.take_some-took.ensures.goes
