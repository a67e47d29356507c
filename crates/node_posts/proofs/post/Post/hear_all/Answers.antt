use Rattle.node_posts.proofs.Going.{goes-same, goes-then, run-goes}
use Rattle.node_posts.proofs.post.Post.hear_all.Goals as goal

pub loop-init : goal.loop-init
loop-init g c = goes-same g.P.Program.wants g.P.Program.becomes c.args.last_tick c.args.self.now

pub hear-heard-requires-clause-run : goal.hear-heard-requires-clause-run
hear-heard-requires-clause-run g c = run-goes g.P.Program.wants g.P.Program.becomes c.args.last_tick c.args.self.now c.loop.self c.requires.run c.loop.invariant

pub loop-preserved : goal.loop-preserved
loop-preserved g c = goes-then g.P.Program.wants g.P.Program.becomes c.args.last_tick c.args.self.now c.loop.self c.hear-heard.new.self c.loop.invariant c.hear-heard.ensures.goes
