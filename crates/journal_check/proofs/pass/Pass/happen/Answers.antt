use Rattle.std.proofs.Common.{◌≡◌, ◌++◌, ◌∙◌, Some, ap, refl, sym, subst, arith}
use Rattle.std.specs.Prelude.{IfSome}
use Rattle.std.specs.Vec.{with_item}
use Rattle.uid_names.specs.declared.ids.Place.{Place}
use Rattle.fault_handler.specs.Desks.{IsNode}
use Rattle.node_core.specs.Nodes.{Noted}
use Rattle.node_core.specs.Receivings.{seen}
use Rattle.journal_check.specs.Changes.{AreOfNodes, ChangeLinks, IsFrameThere, IsHeard, IsSent, IsServed, IsTold}
use Rattle.journal_check.specs.Passes.{marks_sent}
use Rattle.journal_check.proofs.Coming.{has-links}
use Rattle.journal_check.proofs.LinkChanges.{of-nodes}
use Rattle.journal_check.proofs.Showing.{sent-there, set-read, shown-here, step-enabled, step-incoming, step-tick, told-there}
use Rattle.journal_check.proofs.Stepping.{law-of}
use Rattle.journal_check.proofs.pass.Pass.happen.Goals as goal

pub step_aside-requires-clause-enabled : goal.step_aside-requires-clause-enabled
step_aside-requires-clause-enabled g c =
    let r = c.requires.may in
    step-enabled g.P.Program.wants g.P.Program.becomes r.0 r.1 c.args.self.now r.2 c.args.node c.args.what c.args.received c.args.again r.3 c.requires.node c.place_of-at.result c.place_of-at.ensures.value c.index_mut.result.now
    c.index_mut.ensures.value c.requires.enabled

pub step_aside-requires-clause-tick : goal.step_aside-requires-clause-tick
step_aside-requires-clause-tick g c =
    let r = c.requires.may in
    step-tick g.P.Program.wants g.P.Program.becomes r.0 r.1 c.args.self.now r.2 c.args.node c.args.what c.args.received c.args.again r.3 c.requires.node c.place_of-at.result c.place_of-at.ensures.value c.index_mut.result.now
    c.index_mut.ensures.value

pub step_aside-requires-clause-incoming : goal.step_aside-requires-clause-incoming
step_aside-requires-clause-incoming g c =
    let r = c.requires.may in
    step-incoming g.P.Program.wants g.P.Program.becomes r.0 r.1 c.args.self.now r.2 c.args.node c.args.what c.args.received c.args.again r.3 c.requires.node c.place_of-at.result c.place_of-at.ensures.value c.index_mut.result.now
    c.index_mut.ensures.value

pub tell-requires-clause-links : goal.tell-requires-clause-links
tell-requires-clause-links g c =
    let r = c.requires.may in
    subst (λ k. AreOfNodes k c.args.self.now.frames.items) (sym (c.len-count.ensures ∙ c.args.self.now.nodes.ok.0)) (has-links g.P.Program.wants g.P.Program.becomes r.0 r.1 c.args.self.now r.2 r.3.stands)

pub tell-requires-clause-there : goal.tell-requires-clause-there
tell-requires-clause-there g c =
    let r = c.requires.may in
    subst (λ k. IsFrameThere k c.args.what c.args.self.now.frames.items) (sym (c.len-count.ensures ∙ c.args.self.now.nodes.ok.0))
    (told-there g.P.Program.wants g.P.Program.becomes r.0 r.1 c.args.self.now r.2 c.args.node c.args.what c.args.received c.args.again r.3 c.requires.node c.place_of-at.result c.place_of-at.ensures.value c.index_mut.result.now
    c.index_mut.ensures.value c.step_aside.new.self c.in_ok-event.event c.in_ok-event.emitted c.in_ok-event.ensures.happens)

pub send-requires-clause-links : goal.send-requires-clause-links
send-requires-clause-links g c =
    let r = c.requires.may in
    let first = subst (λ k. AreOfNodes k c.args.self.now.frames.items) (sym (c.len-count.ensures ∙ c.args.self.now.nodes.ok.0)) (has-links g.P.Program.wants g.P.Program.becomes r.0 r.1 c.args.self.now r.2 r.3.stands) in
    of-nodes c.len-count.result (IsTold c.args.what) c.args.self.now.frames.items c.tell.new.frames.items first c.tell.ensures

pub send-requires-clause-named : goal.send-requires-clause-named
send-requires-clause-named g c =
    let r = c.requires.may in
    subst (λ k. IfSome c.in_ok-event.emitted.frame (λ y. IsNode k y.1.from × IsNode k y.1.to)) (sym (c.len-count.ensures ∙ c.args.self.now.nodes.ok.0))
    (sent-there g.P.Program.wants g.P.Program.becomes r.0 r.1 c.args.self.now r.2 c.args.node c.args.what c.args.received c.args.again r.3 c.requires.node c.place_of-at.result c.place_of-at.ensures.value c.index_mut.result.now
    c.index_mut.ensures.value c.step_aside.new.self c.in_ok-event.event c.in_ok-event.emitted c.in_ok-event.ensures.happens)

pub drop_served-requires : goal.drop_served-requires
drop_served-requires g c =
    let r = c.requires.may in
    let count = c.len-count.result in
    let first = subst (λ k. AreOfNodes k c.args.self.now.frames.items) (sym (c.len-count.ensures ∙ c.args.self.now.nodes.ok.0)) (has-links g.P.Program.wants g.P.Program.becomes r.0 r.1 c.args.self.now r.2 r.3.stands) in
    let second = of-nodes count (IsTold c.args.what) c.args.self.now.frames.items c.tell.new.frames.items first c.tell.ensures in
    record { links = of-nodes count (IsSent c.in_ok-event.emitted.frame) c.tell.new.frames.items c.send.new.frames.items second c.in_ok-send.ensures }

pub drop_heard-requires-clause-links : goal.drop_heard-requires-clause-links
drop_heard-requires-clause-links g c =
    let r = c.requires.may in
    let count = c.len-count.result in
    let first = subst (λ k. AreOfNodes k c.args.self.now.frames.items) (sym (c.len-count.ensures ∙ c.args.self.now.nodes.ok.0)) (has-links g.P.Program.wants g.P.Program.becomes r.0 r.1 c.args.self.now r.2 r.3.stands) in
    let second = of-nodes count (IsTold c.args.what) c.args.self.now.frames.items c.tell.new.frames.items first c.tell.ensures in
    let third = of-nodes count (IsSent c.in_ok-event.emitted.frame) c.tell.new.frames.items c.send.new.frames.items second c.in_ok-send.ensures in
    of-nodes count (IsServed (seen c.args.received)) c.send.new.frames.items c.drop_served.new.frames.items third c.drop_served.ensures

pub drop_heard-requires-clause-at : goal.drop_heard-requires-clause-at
drop_heard-requires-clause-at g c = subst (λ k. IsNode k c.args.node) (sym (c.len-count.ensures ∙ c.args.self.now.nodes.ok.0)) c.requires.node

pub returns : goal.returns
returns g c = λ made s w can.
    let p = c.args.self.now in
    let n = c.args.node in
    let x = c.step_aside.new.self in
    let same = (c.len-count.ensures ∙ c.args.self.now.nodes.ok.0) in
    let low = c.requires.node.0 in
    let high = c.requires.node.1 in
    let at = c.place_of-at.ensures.value in
    let own : c.index.result.now ≡ x = set-read p.nodes.items c.place_of-at.result x c.index.result.now (omega (arith, low, high, at)) c.index.ensures in
    shown-here g.P.Program.wants g.P.Program.becomes made s p w n c.args.what c.args.received c.args.again can c.requires.node c.place_of-at.result c.place_of-at.ensures.value c.index_mut.result.now c.index_mut.ensures.value
    x c.in_ok-event.event c.in_ok-event.emitted c.in_ok-event.ensures.happens
    (c.a_step_is_decided_by_its_node.ensures.good s can.stands.setup)
    (law-of s c.a_step_is_decided_by_its_node.ensures.above c.a_step_is_decided_by_its_node.ensures.only)
    c.tell.new.frames.items c.send.new.frames.items c.drop_served.new.frames.items
    (record { nodes = with_item p.nodes c.place_of-at.result x; frames = c.drop_heard.new.frames; marks = c.mark.new.marks; last = Some c.place-2.result })
    (subst (λ k. ChangeLinks k (IsTold c.args.what) p.frames.items c.tell.new.frames.items) same c.tell.ensures)
    (subst (λ k. ChangeLinks k (IsSent c.in_ok-event.emitted.frame) c.tell.new.frames.items c.send.new.frames.items) same c.in_ok-send.ensures)
    (subst (λ k. ChangeLinks k (IsServed (seen c.args.received)) c.send.new.frames.items c.drop_served.new.frames.items) same c.drop_served.ensures)
    (subst (λ k. ChangeLinks k (IsHeard x n) c.drop_served.new.frames.items c.drop_heard.new.frames.items) same
    (subst (λ (y : Noted g.row.P.Denot). ChangeLinks c.len-count.result (IsHeard y n) c.drop_served.new.frames.items c.drop_heard.new.frames.items) own c.drop_heard.ensures))
    refl (c.in_ok-mark.ensures ∙ ap (λ (q : Place). p.marks.items ++ marks_sent c.in_ok-event.emitted.mark n q.tick) c.place.ensures) (ap (λ (q : Place). Some q) c.place-2.ensures)
