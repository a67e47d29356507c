use Rattle.node_posts.proofs.Going.{goes-same}
use Rattle.node_threads.proofs.alone.rest.Goals as goal

pub returns-then-is_quiet : goal.returns-then-is_quiet
returns-then-is_quiet g c = λ limit most. c.look_out.ensures limit most

pub returns-else-is_quiet : goal.returns-else-is_quiet
returns-else-is_quiet g c = λ limit most. goes-same g.P.Program.wants g.P.Program.becomes limit c.args.post.now
