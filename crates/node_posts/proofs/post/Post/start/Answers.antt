use Rattle.std.proofs.Common.{◌∙◌, sym, arith}
use Rattle.uid_names.proofs.Somes.{none-there}
use Rattle.node_posts.proofs.Going.{goes-same}
use Rattle.node_posts.proofs.Keeping.{start-may, start-goes, goes-either}
use Rattle.node_posts.proofs.post.Post.start.Goals as goal

pub returns-then-has_fault-clause-goes : goal.returns-then-has_fault-clause-goes
returns-then-has_fault-clause-goes g c = goes-same g.P.Program.wants g.P.Program.becomes c.args.last_tick c.args.self.now

pub event-requires-clause-fault : goal.event-requires-clause-fault
event-requires-clause-fault g c = none-there c.args.self.now.fault (sym c.has_fault.ensures ∙ c.if-has_fault.false)

pub event-requires-clause-may : goal.event-requires-clause-may
event-requires-clause-may g c =
    start-may g.P.Program.wants g.P.Program.becomes c.args.last_tick c.requires.last c.args.self.now (none-there c.args.self.now.fault (sym c.has_fault.ensures ∙ c.if-has_fault.false))
    c.args.what c.requires.start c.requires.run

pub returns-clause-goes : goal.returns-clause-goes
returns-clause-goes g c =
    let none = none-there c.args.self.now.fault (sym c.has_fault.ensures ∙ c.if-has_fault.false) in
    goes-either g.P.Program.wants g.P.Program.becomes c.args.last_tick c.requires.last c.args.self.now none c.event.new.self c.event.result
    (λ done. start-goes g.P.Program.wants g.P.Program.becomes c.args.last_tick c.requires.last c.args.self.now none c.args.what c.event.new.self c.requires.start (c.event.ensures.done done))
    c.event.ensures.nothing
