-- The post goes on, whatever limit of ticks there is.
use Rattle.std.proofs.Common.{ℕ, ◌≤◌}
use Rattle.std.specs.Prelude.{◌^◌}
use Rattle.node_posts.specs.Posts.{GoesOn}
use Rattle.node_posts.proofs.post.Post.has_incoming.Given as goal

abbrev pub invariant-loop-at : goal.invariant-loop-at
invariant-loop-at g l = (limit : ℕ) → limit ≤ 2 ^ 40 → GoesOn g.P.Program.wants g.P.Program.becomes limit l.fn.self l.self
