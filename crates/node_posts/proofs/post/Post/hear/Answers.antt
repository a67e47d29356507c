use Rattle.std.proofs.Common.{refl, sym, subst, ◌∙◌}
use Rattle.std.specs.Prelude.{IsTrue}
use Rattle.uid_names.proofs.Somes.{none-there}
use Rattle.dom_history.specs.declared.event.What.{What}
use Rattle.world_runs.specs.NamedNodes.{NamesNodesIn}
use Rattle.ring_links.specs.Notices.{notice_incoming}
use Rattle.node_posts.specs.Turns.{MayDo, IsDone}
use Rattle.node_posts.proofs.Going.{goes-same}
use Rattle.node_posts.proofs.Keeping.{alike-goes, hear-may, hear-early, hear-either}
use Rattle.node_posts.proofs.post.Post.hear.Goals as goal

pub returns-then-has_fault : goal.returns-then-has_fault
returns-then-has_fault g c = record { goes = goes-same g.P.Program.wants g.P.Program.becomes c.args.last_tick c.args.self.now }

pub returns-in_default : goal.returns-in_default
returns-in_default g c =
    let x = c.args.self.now in
    record {
      goes =
          alike-goes g.P.Program.wants g.P.Program.becomes c.args.last_tick c.requires.last x (none-there x.fault (sym c.has_fault.ensures ∙ c.if-has_fault.false))
          (record x { notices = c.pop_front.new.self }) refl refl refl refl (sym c.in_default.ensures.items) refl;
    }

pub event-requires-clause-may : goal.event-requires-clause-may
event-requires-clause-may g c =
    let x = c.args.self.now in
    let mid = record x { notices = c.pop_front.new.self } in
    subst (λ (w : What). MayDo g.P.Program.wants g.P.Program.becomes c.args.last_tick (λ nodes. NamesNodesIn nodes w) mid) (sym c.what.ensures)
    (hear-may g.P.Program.wants g.P.Program.becomes c.args.last_tick c.requires.last x (none-there x.fault (sym c.has_fault.ensures ∙ c.if-has_fault.false))
    mid c.in-Some.notice c.in-Some.ensures.items refl refl refl c.requires.run)

pub event-requires-clause-early : goal.event-requires-clause-early
event-requires-clause-early g c =
    let x = c.args.self.now in
    hear-early g.P.Program.wants g.P.Program.becomes c.args.last_tick c.requires.last x (none-there x.fault (sym c.has_fault.ensures ∙ c.if-has_fault.false))
    (record x { notices = c.pop_front.new.self }) c.in-Some.notice c.in-Some.ensures.items c.requires.run

pub returns : goal.returns
returns g c =
    let x = c.args.self.now in
    let none = none-there x.fault (sym c.has_fault.ensures ∙ c.if-has_fault.false) in
    let mid = record x { notices = c.pop_front.new.self } in
    let new = c.event.new.self in
    let first = c.in-Some.notice in
    let early = hear-early g.P.Program.wants g.P.Program.becomes c.args.last_tick c.requires.last x none mid first c.in-Some.ensures.items c.requires.run in
    record {
      goes =
          hear-either g.P.Program.wants g.P.Program.becomes c.args.last_tick c.requires.last x none mid new first c.event.result c.in-Some.ensures.items refl refl refl refl refl early
          (subst (λ (w : What). IsTrue c.event.result → IsDone g.P.Program.wants g.P.Program.becomes c.args.last_tick w (notice_incoming first) mid new new.fault) c.what.ensures c.event.ensures.done)
          c.event.ensures.nothing;
    }
