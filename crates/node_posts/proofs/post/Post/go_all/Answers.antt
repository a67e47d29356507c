use Rattle.node_posts.proofs.Going.{goes-same, goes-then, run-goes}
use Rattle.node_posts.proofs.post.Post.go_all.Goals as goal

pub loop-i-init : goal.loop-i-init
loop-i-init g c = goes-same g.P.Program.wants g.P.Program.becomes c.args.last_tick c.args.self.now

pub go-went-requires-clause-run : goal.go-went-requires-clause-run
go-went-requires-clause-run g c = run-goes g.P.Program.wants g.P.Program.becomes c.args.last_tick c.args.self.now c.loop-i.self c.requires.run c.loop-i.invariant

pub loop-i-preserved : goal.loop-i-preserved
loop-i-preserved g c = goes-then g.P.Program.wants g.P.Program.becomes c.args.last_tick c.args.self.now c.loop-i.self c.go-went.new.self c.loop-i.invariant c.go-went.ensures.goes
