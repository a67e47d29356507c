use Rattle.node_posts.specs.Posts.{GoesOn}
use Rattle.node_threads.proofs.alone.serve_alone.Given as goal

abbrev pub invariant-loop : goal.invariant-loop
invariant-loop g l = GoesOn g.P.Program.wants g.P.Program.becomes l.last_tick l.initial.post l.post
