use Rattle.std.proofs.Common.{ℕ, [], ◌∷◌, refl, subst}
use Rattle.std.proofs.lemmas.Result.{on_ok_weaker}
use Rattle.wire_links.specs.Carrying.{Posting}
use Rattle.node_posts.specs.Sending.{AreOutsAfter}
use Rattle.node_posts.proofs.Going.{unpushed-none}
use Rattle.node_posts.proofs.Posting.{frame-emitted, mark-sent, nothing-sent}
use Rattle.node_posts.proofs.post.Post.send.Goals as goal

pub returns-in-Some-clause-sent : goal.returns-in-Some-clause-sent
returns-in-Some-clause-sent g c =
    on_ok_weaker c.mark_outs.result (λ sent.
    mark-sent c.args.self.now.node.log.node c.args.self.now.node.inner.tick c.args.emitted c.args.self.now _ c.in-Some.phase c.in-Some.is
    (subst (λ (t : ℕ). AreOutsAfter (λ at. Posting.Mark c.in-Some.phase t ∷ []) c.args.self.now.outs.items c.mark_outs.new.outs.items) c.tick.ensures sent) refl refl)
    c.mark_outs.ensures.sent

pub returns-in-Some-frame-clause-sent : goal.returns-in-Some-frame-clause-sent
returns-in-Some-frame-clause-sent g c =
    on_ok_weaker c.send_frame.result (λ sent.
    frame-emitted c.args.self.now.node.log.node c.args.self.now.node.inner.tick (c.in-Some-frame.field-0-0, c.in-Some-frame.frame) c.args.emitted c.args.self.now c.send_frame.new.self
    c.in_default.is c.in-Some-frame.is sent) (c.send_frame.ensures.sent c.in-Some-frame.field-0-0)

pub returns-in-None-clause-sent : goal.returns-in-None-clause-sent
returns-in-None-clause-sent g c =
    nothing-sent c.args.self.now.node.log.node c.args.self.now.node.inner.tick c.args.emitted c.args.self.now c.args.self.now c.in_default.is c.in-None.is refl refl refl

pub returns-in-None-clause-beside : goal.returns-in-None-clause-beside
returns-in-None-clause-beside g c = record { ins = refl; outs = unpushed-none c.args.self.now.outs.items }
