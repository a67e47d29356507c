use Rattle.node_posts.proofs.Going.{goes-same, goes-then, run-goes}
use Rattle.node_threads.proofs.serving.begin_all.Goals as goal

pub loop-i-init : goal.loop-i-init
loop-i-init g c = goes-same g.P.Program.wants g.P.Program.becomes c.args.last_tick c.args.post.now

pub begin_one-requires-clause-run : goal.begin_one-requires-clause-run
begin_one-requires-clause-run g c κs within = run-goes g.P.Program.wants g.P.Program.becomes c.args.last_tick c.args.post.now c.loop-i.post c.requires.run c.loop-i.invariant

pub loop-i-preserved : goal.loop-i-preserved
loop-i-preserved g c = goes-then g.P.Program.wants g.P.Program.becomes c.args.last_tick c.args.post.now c.loop-i.post c.begin_one.new.post c.loop-i.invariant c.begin_one.ensures
