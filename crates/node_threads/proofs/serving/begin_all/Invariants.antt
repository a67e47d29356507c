use Rattle.node_posts.specs.Posts.{GoesOn}
use Rattle.node_threads.proofs.serving.begin_all.Given as goal

abbrev pub invariant-loop-i : goal.invariant-loop-i
invariant-loop-i g l = GoesOn g.P.Program.wants g.P.Program.becomes l.last_tick l.fn.post l.post
