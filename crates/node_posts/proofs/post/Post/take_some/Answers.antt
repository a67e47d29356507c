use Rattle.node_posts.proofs.Going.{goes-same, goes-then, run-goes}
use Rattle.node_posts.proofs.post.Post.take_some.Goals as goal

pub loop-taken-init : goal.loop-taken-init
loop-taken-init g c = goes-same g.P.Program.wants g.P.Program.becomes c.args.last_tick c.args.self.now

pub take-requires-clause-run : goal.take-requires-clause-run
take-requires-clause-run g c = run-goes g.P.Program.wants g.P.Program.becomes c.args.last_tick c.args.self.now c.loop-taken.self c.requires.run c.loop-taken.invariant

pub loop-taken-preserved : goal.loop-taken-preserved
loop-taken-preserved g c = goes-then g.P.Program.wants g.P.Program.becomes c.args.last_tick c.args.self.now c.loop-taken.self c.take.new.self c.loop-taken.invariant c.take.ensures.goes

pub returns-then-not-take : goal.returns-then-not-take
returns-then-not-take g c = record { goes = goes-then g.P.Program.wants g.P.Program.becomes c.args.last_tick c.args.self.now c.loop-taken.self c.take.new.self c.loop-taken.invariant c.take.ensures.goes }
