use Rattle.std.proofs.Common.{◌≡◌, drop}
use Rattle.node_threads.specs.Groups.{any_fault}
use Rattle.node_threads.proofs.group.has_fault.Given as goal

abbrev pub invariant-loop-post : goal.invariant-loop-post
invariant-loop-post g l = any_fault l.posts ≡ any_fault (drop l.post-index l.posts)
