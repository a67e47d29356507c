use Rattle.std.proofs.Common.{refl}
use Rattle.node_threads.proofs.Groups.{all-goes-same}
use Rattle.node_threads.proofs.run.serve_on.Goals as goal

pub returns-then-has_fault-clause-goes : goal.returns-then-has_fault-clause-goes
returns-then-has_fault-clause-goes g c = all-goes-same g.P.Program.wants g.P.Program.becomes c.args.last_tick c.args.posts.items

pub returns-then-are_over-clause-goes : goal.returns-then-are_over-clause-goes
returns-then-are_over-clause-goes g c = all-goes-same g.P.Program.wants g.P.Program.becomes c.args.last_tick c.args.posts.items

pub returns-clause-ends : goal.returns-clause-ends
returns-clause-ends g c = c.serve_group.ensures.ends refl
