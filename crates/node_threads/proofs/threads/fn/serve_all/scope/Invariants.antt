use Rattle.node_posts.specs.Posts.{GoesOn}
use Rattle.node_threads.specs.Slots.{AreSlots, IsChild}
use Rattle.node_threads.proofs.threads.fn.serve_all.scope.Given as goal

abbrev pub invariant-loop-post : goal.invariant-loop-post
invariant-loop-post g l =
    AreSlots (IsChild l.last_tick) (GoesOn g.P.Program.wants g.P.Program.becomes l.last_tick) l.slots.items l.refused.items l.yielded
