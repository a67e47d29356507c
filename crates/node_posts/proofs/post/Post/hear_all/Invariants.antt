-- Serving went on so far.
use Rattle.node_posts.specs.Posts.{GoesOn}
use Rattle.node_posts.proofs.post.Post.hear_all.Given as goal

abbrev pub invariant-loop : goal.invariant-loop
invariant-loop g l = GoesOn g.P.Program.wants g.P.Program.becomes l.last_tick l.fn.self l.self
