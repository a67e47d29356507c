use Rattle.std.proofs.Common.{refl, sym, ◌∙◌}
use Rattle.uid_names.proofs.Somes.{none-there}
use Rattle.node_posts.proofs.Going.{goes-same}
use Rattle.node_posts.proofs.Keeping.{flush-goes}
use Rattle.node_posts.proofs.post.Post.flush.Goals as goal

pub returns-then-has_fault-clause-goes : goal.returns-then-has_fault-clause-goes
returns-then-has_fault-clause-goes g c = λ limit most. goes-same g.P.Program.wants g.P.Program.becomes limit c.args.self.now

pub returns-clause-goes : goal.returns-clause-goes
returns-clause-goes g c = λ limit most.
    flush-goes g.P.Program.wants g.P.Program.becomes limit most c.args.self.now (none-there c.args.self.now.fault (sym c.has_fault.ensures ∙ c.if-has_fault.false))
    _ c.flush_at.ensures refl refl refl refl refl
