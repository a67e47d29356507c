-- The posts of the nodes that came so far are joined.
use Rattle.std.proofs.Common.{◌≡◌, map}
use Rattle.node_posts.specs.Starts.{AreJoined}
use Rattle.node_posts.proofs.making.make_posts.Given as goal

abbrev pub invariant-loop-node : goal.invariant-loop-node
invariant-loop-node g l = AreJoined l.plan l.posts.items × (map (λ y. y.node) l.posts.items ≡ l.yielded)
