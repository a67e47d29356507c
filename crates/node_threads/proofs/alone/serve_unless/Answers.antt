use Rattle.node_posts.proofs.Going.{goes-same}
use Rattle.node_threads.proofs.alone.serve_unless.Goals as goal

pub returns-then-load : goal.returns-then-load
returns-then-load g c = goes-same g.P.Program.wants g.P.Program.becomes c.args.last_tick c.args.post
