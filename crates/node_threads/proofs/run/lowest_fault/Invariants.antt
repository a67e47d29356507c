use Rattle.std.proofs.Common.{◌≡◌, drop}
use Rattle.node_threads.specs.Groups.{first_fault}
use Rattle.node_threads.proofs.run.lowest_fault.Given as goal

abbrev pub invariant-loop-post : goal.invariant-loop-post
invariant-loop-post g l = first_fault l.posts ≡ first_fault (drop l.post-index l.posts)
