use Rattle.std.proofs.Common.{refl, sym, ◌∙◌}
use Rattle.uid_names.proofs.Somes.{none-there}
use Rattle.node_posts.proofs.Going.{goes-same}
use Rattle.node_posts.proofs.Keeping.{looked-goes}
use Rattle.node_posts.proofs.post.Post.waits.Goals as goal

pub returns-then-has_fault : goal.returns-then-has_fault
returns-then-has_fault g c = record { goes = λ limit most. goes-same g.P.Program.wants g.P.Program.becomes limit c.args.self.now }

pub returns : goal.returns
returns g c =
    let x = c.args.self.now in
    record {
      goes = λ limit most.
          looked-goes g.P.Program.wants g.P.Program.becomes limit most x (none-there x.fault (sym c.has_fault.ensures ∙ c.if-has_fault.false))
          (record x { ins = c.waits_at.new.ins }) c.waits_at.ensures.none c.waits_at.ensures.same refl refl refl refl refl;
    }
