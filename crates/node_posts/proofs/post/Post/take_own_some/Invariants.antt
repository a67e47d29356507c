-- Serving went on so far.
use Rattle.node_posts.specs.Posts.{GoesOn}
use Rattle.node_posts.proofs.post.Post.take_own_some.Given as goal

abbrev pub invariant-loop-taken : goal.invariant-loop-taken
invariant-loop-taken g l = GoesOn g.P.Program.wants g.P.Program.becomes l.last_tick l.fn.self l.self
