use Rattle.std.proofs.Common.{ℕ, List, None, ap, sym, ◌∙◌}
use Rattle.ring_messages.proofs.Asking.{asked-of}
use Rattle.uid_names.specs.Names.{ObjectName}
use Rattle.uid_names.proofs.Somes.{there_is}
use Rattle.node_core.specs.declared.turns.Done.{Done}
use Rattle.node_core.proofs.Serving.{serves-sent, serves-none}
use Rattle.node_core.proofs.machine.Machine.serves.Goals as goal

pub returns-in-Some : goal.returns-in-Some
returns-in-Some g c s comes =
    let ask = there_is _ (asked-of c.args.frame.now.body c.requires.request) in
    serves-sent g.P.Program.spent g.P.Program.wants g.P.Program.becomes c.args.self.now c.serve.new.self c.args.frame.now ask.0 c.requires.before.within ask.1 c.in_ok-reply.ensures.side c.in_ok-reply.ensures.tick c.in_ok-reply.ensures.wire
    c.sends.new.self c.sends.new.done c.in-Some.reply c.new.result s c.sends.ensures c.new.ensures (sym c.in-Some.is ∙ c.in_ok-reply.ensures.reply) comes

pub returns-in-None : goal.returns-in-None
returns-in-None g c s comes =
    let ask = there_is _ (asked-of c.args.frame.now.body c.requires.request) in
    let quietly = λ (x : List (ObjectName × ℕ)). let e : Done = record { frame = None; effects = record { dropped = x; sent = None; ended = None } } in e in
    serves-none g.P.Program.spent g.P.Program.wants g.P.Program.becomes c.args.self.now c.serve.new.self c.args.frame.now ask.0 c.requires.before.within ask.1 c.in_ok-reply.ensures.side c.in_ok-reply.ensures.tick c.in_ok-reply.ensures.wire
    c.quiet.new.done s (c.quiet.ensures ∙ ap quietly c.new-in-None.ensures) (sym c.in-None.is ∙ c.in_ok-reply.ensures.reply) comes
