use Rattle.std.proofs.Common.{refl, sym, ◌∙◌}
use Rattle.uid_names.proofs.Somes.{none-there}
use Rattle.node_posts.proofs.Going.{goes-same}
use Rattle.node_posts.proofs.Keeping.{take-goes, take-may, looked-goes}
use Rattle.node_posts.proofs.post.Post.take.Goals as goal

pub returns-then-has_fault : goal.returns-then-has_fault
returns-then-has_fault g c = record { goes = goes-same g.P.Program.wants g.P.Program.becomes c.args.last_tick c.args.self.now }

pub returns-then-ended : goal.returns-then-ended
returns-then-ended g c = record { goes = goes-same g.P.Program.wants g.P.Program.becomes c.args.last_tick c.args.self.now }

pub returns-in_default : goal.returns-in_default
returns-in_default g c = record { goes = goes-same g.P.Program.wants g.P.Program.becomes c.args.last_tick c.args.self.now }

pub returns-in_default-take_at : goal.returns-in_default-take_at
returns-in_default-take_at g c =
    let x = c.args.self.now in
    record {
      goes =
          looked-goes g.P.Program.wants g.P.Program.becomes c.args.last_tick c.requires.last x (none-there x.fault (sym c.has_fault.ensures ∙ c.if-has_fault.false))
          (record x { ins = c.take_at.new.ins }) c.in_default-take_at.ensures.none c.in_default-take_at.ensures.same refl refl refl refl refl;
    }

pub come-requires-clause-may : goal.come-requires-clause-may
come-requires-clause-may g c =
    let x = c.args.self.now in
    take-may g.P.Program.wants g.P.Program.becomes c.args.last_tick c.requires.last x (none-there x.fault (sym c.has_fault.ensures ∙ c.if-has_fault.false))
    c.args.at c.in-Some-take_at.carried c.in-Some.from (record x { ins = c.take_at.new.ins }) c.in-Some.ensures c.in-Some-take_at.ensures.within refl refl refl refl refl
    c.in-Some-take_at.ensures.some c.in-Some-take_at.ensures.same (sym c.ended.ensures ∙ c.if-ended.false) c.requires.run

pub returns : goal.returns
returns g c =
    let x = c.args.self.now in
    record {
      goes =
          take-goes g.P.Program.wants g.P.Program.becomes c.args.last_tick c.requires.last x (none-there x.fault (sym c.has_fault.ensures ∙ c.if-has_fault.false))
          c.args.at c.in-Some-take_at.carried c.in-Some.from (record x { ins = c.take_at.new.ins }) c.in-Some.ensures c.in-Some-take_at.ensures.within refl refl refl refl refl
          c.in-Some-take_at.ensures.some c.in-Some-take_at.ensures.same (sym c.ended.ensures ∙ c.if-ended.false) c.come.new.self c.come.ensures;
    }
