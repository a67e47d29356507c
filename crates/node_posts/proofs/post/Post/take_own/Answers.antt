use Rattle.std.proofs.Common.{ℕ, refl, sym, ap, subst, ◌∙◌}
use Rattle.std.specs.Prelude.{IsTrue, IsFalse}
use Rattle.uid_names.proofs.Somes.{none-there}
use Rattle.dom_history.specs.declared.event.What.{What}
use Rattle.world_runs.specs.NamedNodes.{NamesNodesIn}
use Rattle.node_core.specs.Receivings.{seen}
use Rattle.node_posts.specs.Ends.{own_event}
use Rattle.node_posts.specs.Turns.{MayDo, IsDone, IsRefused}
use Rattle.node_posts.proofs.Going.{goes-same}
use Rattle.node_posts.proofs.Keeping.{own-none, own-goes-may, own-comes-early, own-either}
use Rattle.node_posts.proofs.post.Post.take_own.Goals as goal

pub returns-then-has_fault : goal.returns-then-has_fault
returns-then-has_fault g c = record { goes = goes-same g.P.Program.wants g.P.Program.becomes c.args.last_tick c.args.self.now }

pub returns-then-ended : goal.returns-then-ended
returns-then-ended g c = record { goes = goes-same g.P.Program.wants g.P.Program.becomes c.args.last_tick c.args.self.now }

pub returns-in_default : goal.returns-in_default
returns-in_default g c =
    let x = c.args.self.now in
    record {
      goes =
          own-none g.P.Program.wants g.P.Program.becomes c.args.last_tick c.requires.last x (none-there x.fault (sym c.has_fault.ensures ∙ c.if-has_fault.false))
          (record x { own = c.pop.new.self }) (sym c.in_default.ensures.oldest) c.in_default.ensures.taken refl refl refl refl refl;
    }

pub event-requires-clause-may : goal.event-requires-clause-may
event-requires-clause-may g c =
    let x = c.args.self.now in
    let e = c.in-Some.entry in
    let mid = record x { own = c.pop.new.self } in
    let what = c.taking-what.ensures ∙ ap (λ (k : ℕ). own_event k e.waiting) c.number.ensures in
    subst (λ (w : What). MayDo g.P.Program.wants g.P.Program.becomes c.args.last_tick (λ nodes. NamesNodesIn nodes w) mid) (sym what)
    (own-goes-may g.P.Program.wants g.P.Program.becomes c.args.last_tick c.requires.last x (none-there x.fault (sym c.has_fault.ensures ∙ c.if-has_fault.false))
    mid e (sym c.in-Some.ensures.oldest, c.in-Some.ensures.taken) refl refl c.requires.run)

pub event-requires-clause-early : goal.event-requires-clause-early
event-requires-clause-early g c =
    own-comes-early g.P.Program.wants g.P.Program.becomes c.args.last_tick c.requires.last c.args.self.now (none-there c.args.self.now.fault (sym c.has_fault.ensures ∙ c.if-has_fault.false))
    c.in-Some.entry (sym c.in-Some.ensures.oldest) c.requires.run

pub returns : goal.returns
returns g c =
    let x = c.args.self.now in
    let e = c.in-Some.entry in
    let mid = record x { own = c.pop.new.self } in
    let new = c.event.new.self in
    let what = c.taking-what.ensures ∙ ap (λ (k : ℕ). own_event k e.waiting) c.number.ensures in
    record {
      goes =
          own-either g.P.Program.wants g.P.Program.becomes c.args.last_tick c.requires.last x (none-there x.fault (sym c.has_fault.ensures ∙ c.if-has_fault.false))
          mid new e c.event.result (sym c.in-Some.ensures.oldest, c.in-Some.ensures.taken) refl refl refl refl (sym c.ended.ensures ∙ c.if-ended.false) c.requires.run
          (subst (λ (w : What). IsTrue c.event.result → IsDone g.P.Program.wants g.P.Program.becomes c.args.last_tick w (seen e.received) mid new new.fault) what c.event.ensures.done)
          (subst (λ (w : What). IsFalse c.event.result → IsRefused g.P.Program.wants g.P.Program.becomes w (seen e.received) mid.node) what c.event.ensures.refused);
    }
