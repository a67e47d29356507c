use Rattle.node_posts.proofs.Going.{goes-same}
use Rattle.node_threads.proofs.serving.begin_one.Goals as goal

pub returns-in_default : goal.returns-in_default
returns-in_default g c = goes-same g.P.Program.wants g.P.Program.becomes c.args.last_tick c.args.post.now

pub returns-in_default-new : goal.returns-in_default-new
returns-in_default-new g c = goes-same g.P.Program.wants g.P.Program.becomes c.args.last_tick c.args.post.now

pub returns-then-not-may_begin : goal.returns-then-not-may_begin
returns-then-not-may_begin g c = goes-same g.P.Program.wants g.P.Program.becomes c.args.last_tick c.args.post.now
