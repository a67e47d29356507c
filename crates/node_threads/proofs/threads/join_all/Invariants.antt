use Rattle.std.proofs.Common.{List, length}
use Rattle.node_posts.specs.declared.post.Post.{Post}
use Rattle.node_posts.specs.Posts.{GoesOn}
use Rattle.node_threads.specs.Slots.{AreSlots, IsChild}
use Rattle.node_threads.proofs.Slots.{IsJoined}
use Rattle.node_threads.proofs.threads.join_all.Given as goal

abbrev pub invariant-loop-slot : goal.invariant-loop-slot
invariant-loop-slot g l =
    (posts : List (Post g.row.P.Denot g.row.G.Denot)) → AreSlots (IsChild l.last_tick) (GoesOn g.P.Program.wants g.P.Program.becomes l.last_tick) l.initial.left.items l.initial.kept.items posts
    → IsJoined (IsChild l.last_tick) (GoesOn g.P.Program.wants g.P.Program.becomes l.last_tick) l.left.items l.kept.items l.served.items posts

abbrev pub decreases-loop-slot : goal.decreases-loop-slot
decreases-loop-slot g l = length l.left.items
