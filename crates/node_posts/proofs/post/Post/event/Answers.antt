use Rattle.std.proofs.Common.{◌≡◌, Option, IfSome, refl, subst, ◌∙◌}
use Rattle.node_core.specs.declared.setup.Emitted.{Emitted}
use Rattle.node_core.specs.Receivings.{seen}
use Rattle.node_posts.specs.Turns.{Steps, IsBeside, IsCause, IsFailed}
use Rattle.node_posts.proofs.Going.{unpushed-none}
use Rattle.node_posts.proofs.Doing.{sendable}
use Rattle.node_posts.proofs.Posting.{ok-both}
use Rattle.node_posts.proofs.Finishing.{turn-done, turn-failed, turn-undone, noted, err-more, still-can}
use Rattle.node_posts.proofs.post.Post.event.Goals as goal

pub returns-in-Err-clause-done : goal.returns-in-Err-clause-done
returns-in-Err-clause-done g c = λ done.
    turn-undone g.P.Program.wants g.P.Program.becomes c.args.last_tick c.args.what (seen c.args.incoming.now) c.from.result c.from.ensures c.args.self.now _
    (record { ins = refl; outs = unpushed-none c.args.self.now.outs.items }) c.in-Err.ensures.log

pub finish-sent-requires-clause-can : goal.finish-sent-requires-clause-can
finish-sent-requires-clause-can g c = λ low.
    (let steps =
    subst (λ (o : Option Emitted). IfSome o (Steps g.P.Program.wants g.P.Program.becomes c.args.what (seen c.args.incoming.now) c.args.self.now.node c.turn.new.node)) c.in-Some.is
    c.in-Ok.ensures.did in
    still-can c.turn.new.node.log.node c.args.self.now c.turn.new.node c.in-Some.emitted.frame
    (sendable g.P.Program.wants g.P.Program.becomes c.args.last_tick c.requires.last c.args.what (seen c.args.incoming.now) c.args.self.now c.requires.may c.turn.new.node c.in-Some.emitted steps low))

pub returns-clause-done : goal.returns-clause-done
returns-clause-done g c = λ done.
    (let wants = g.P.Program.wants in
    let becomes = g.P.Program.becomes in
    let limit = c.args.last_tick in
    let what = c.args.what in
    let incoming = seen c.args.incoming.now in
    let old = c.args.self.now in
    let mid = record old { node = c.turn.new.node } in
    let y = c.finish-sent.new.self in
    let emitted = c.in-Some.emitted in
    let steps = subst (λ (o : Option Emitted). IfSome o (Steps wants becomes what incoming old.node c.turn.new.node)) c.in-Some.is c.in-Ok.ensures.did in
    let beside : IsBeside c.args.self.now c.finish-sent.new.self = record { ins = c.finish-sent.ensures.beside.ins; outs = c.finish-sent.ensures.beside.outs } in
    noted wants becomes limit what incoming c.finish-sent.result old y c.note.new.self (c.finish-sent.ensures.others.1 ∙ c.requires.fault) c.note.ensures.ok c.note.ensures.err
    (ok-both c.finish-sent.result (λ sent low. turn-done wants becomes limit what incoming old mid y emitted steps c.finish-sent.ensures.others.0 refl refl refl beside low sent)
    c.finish-sent.ensures.sent c.finish-sent.ensures.low)
    (err-more (λ fault. IsCause limit fault y) (λ fault. IsFailed wants becomes limit what incoming fault old y) c.finish-sent.result
    (λ fault cause. turn-failed wants becomes limit what incoming old mid y emitted steps c.finish-sent.ensures.others.0 refl refl refl beside fault cause)
    c.finish-sent.ensures.cause))
