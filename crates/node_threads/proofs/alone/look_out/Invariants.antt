use Rattle.std.proofs.Common.{ℕ, ◌≤◌}
use Rattle.std.specs.Prelude.{◌^◌}
use Rattle.node_posts.specs.Posts.{GoesOn}
use Rattle.node_threads.proofs.alone.look_out.Given as goal

abbrev pub invariant-loop : goal.invariant-loop
invariant-loop g l = (limit : ℕ) → limit ≤ 2 ^ 40 → GoesOn g.P.Program.wants g.P.Program.becomes limit l.fn.post l.post
