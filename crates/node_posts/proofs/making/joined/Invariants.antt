-- So many of the others are joined with the new one.
use Rattle.std.proofs.Common.{◌+◌, length}
use Rattle.node_posts.proofs.Joining.{AreJoining}
use Rattle.node_posts.proofs.making.joined.Given as goal

abbrev pub invariant-loop-at : goal.invariant-loop-at
invariant-loop-at g l = AreJoining l.plan (length l.fn.posts.items + 1) l.fn.node l.fn.posts.items l.at l.posts.items l.post
