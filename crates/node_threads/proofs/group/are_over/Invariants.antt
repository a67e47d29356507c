use Rattle.std.proofs.Common.{◌≡◌, drop}
use Rattle.node_threads.specs.Groups.{all_ended}
use Rattle.node_threads.proofs.group.are_over.Given as goal

abbrev pub invariant-loop-post : goal.invariant-loop-post
invariant-loop-post g l = all_ended l.posts ≡ all_ended (drop l.post-index l.posts)
