use Rattle.std.proofs.Common.{Bool, Option, refl, sym, subst, ◌∙◌}
use Rattle.fault_handler.specs.Desks.{IsNode}
use Rattle.node_core.specs.declared.setup.Incoming as code
use Rattle.journal_check.specs.Passes.{IsReceived}
use Rattle.journal_check.proofs.Coming.{has-links}
use Rattle.journal_check.proofs.Stepping.{law-of, may-happen, not-among, not-may, not-received, tick-few}
use Rattle.journal_check.proofs.pass.Pass.step.Goals as goal

pub received-requires-clause-links : goal.received-requires-clause-links
received-requires-clause-links g c =
    has-links g.P.Program.wants g.P.Program.becomes c.requires.stands.0 c.requires.stands.1 c.args.self.now c.requires.stands.2 c.requires.stands.3

pub received-requires-clause-node : goal.received-requires-clause-node
received-requires-clause-node g c = subst (λ k. IsNode k c.args.node) (c.len-count.ensures ∙ c.args.self.now.nodes.ok.0) (c.if-not-is_among.ensures.0 refl)

pub may-requires-clause-node : goal.may-requires-clause-node
may-requires-clause-node g c = subst (λ k. IsNode k c.args.node) (c.len-count.ensures ∙ c.args.self.now.nodes.ok.0) (c.if-not-is_among.ensures.0 refl)

pub may-requires-clause-tick : goal.may-requires-clause-tick
may-requires-clause-tick g c =
    let r = c.requires.stands in
    let node = subst (λ k. IsNode k c.args.node) ((c.len-count.ensures ∙ c.args.self.now.nodes.ok.0) ∙ r.3.nodes.count) (c.if-not-is_among.ensures.0 refl) in
    let got = subst (λ (o : Option (code.Incoming × Bool)). IsReceived r.2 c.args.node c.args.what o) c.in-Some.is (c.in_ok-received.ensures r.0 r.1 r.2 r.3) in
    tick-few g.P.Program.wants g.P.Program.becomes r.0 r.1 c.args.self.now r.2 r.3 r.4 c.args.node c.args.what node c.in-Some.received c.in-Some.again got

pub happen-requires-clause-node : goal.happen-requires-clause-node
happen-requires-clause-node g c = subst (λ k. IsNode k c.args.node) (c.len-count.ensures ∙ c.args.self.now.nodes.ok.0) (c.if-not-is_among.ensures.0 refl)

pub happen-requires-clause-enabled : goal.happen-requires-clause-enabled
happen-requires-clause-enabled g c = c.if-not-may.ensures.enabled refl

pub happen-requires-clause-may : goal.happen-requires-clause-may
happen-requires-clause-may g c =
    let r = c.requires.stands in
    let got = subst (λ (o : Option (code.Incoming × Bool)). IsReceived r.2 c.args.node c.args.what o) c.in-Some.is (c.in_ok-received.ensures r.0 r.1 r.2 r.3) in (
      r.0,
      r.1,
      r.2,
      may-happen g.P.Program.wants g.P.Program.becomes r.0 r.1 c.args.self.now r.2 r.3 r.4 c.args.node c.args.what c.in-Some.received c.in-Some.again got (sym (c.if-not-may.ensures.follows r.0 r.1 r.2 r.3)),
    )

pub returns-then-not-is_among : goal.returns-then-not-is_among
returns-then-not-is_among g c = λ made s w stands few.
    let same = (c.len-count.ensures ∙ c.args.self.now.nodes.ok.0) ∙ stands.nodes.count in
    not-among g.P.Program.wants g.P.Program.becomes made s c.args.self.now w stands few c.args.node c.args.what
    (law-of s c.a_step_is_decided_by_its_node.ensures.above c.a_step_is_decided_by_its_node.ensures.only)
    (λ node. let no = c.if-not-is_among.ensures.1 (subst (λ k. IsNode k c.args.node) (sym same) node) in absurd (cc))

pub returns-in_default : goal.returns-in_default
returns-in_default g c = λ made s w stands few.
    not-received g.P.Program.wants g.P.Program.becomes made s c.args.self.now w stands few c.args.node c.args.what
    (law-of s c.a_step_is_decided_by_its_node.ensures.above c.a_step_is_decided_by_its_node.ensures.only)
    (subst (λ (o : Option (code.Incoming × Bool)). IsReceived w c.args.node c.args.what o) c.in_default.is (c.in_ok-received.ensures made s w stands))

pub returns-then-not-may : goal.returns-then-not-may
returns-then-not-may g c = λ made s w stands few.
    let node = subst (λ k. IsNode k c.args.node) ((c.len-count.ensures ∙ c.args.self.now.nodes.ok.0) ∙ stands.nodes.count) (c.if-not-is_among.ensures.0 refl) in
    let got = subst (λ (o : Option (code.Incoming × Bool)). IsReceived w c.args.node c.args.what o) c.in-Some.is (c.in_ok-received.ensures made s w stands) in
    not-may g.P.Program.wants g.P.Program.becomes made s c.args.self.now w stands few c.args.node c.args.what
    (law-of s c.a_step_is_decided_by_its_node.ensures.above c.a_step_is_decided_by_its_node.ensures.only)
    node c.in-Some.received c.in-Some.again got (sym (c.if-not-may.ensures.follows made s w stands))

pub returns : goal.returns
returns g c = λ made s w stands few.
    let got = subst (λ (o : Option (code.Incoming × Bool)). IsReceived w c.args.node c.args.what o) c.in-Some.is (c.in_ok-received.ensures made s w stands) in
    c.in_ok-happen.ensures made s w
    (may-happen g.P.Program.wants g.P.Program.becomes made s c.args.self.now w stands few c.args.node c.args.what c.in-Some.received c.in-Some.again got (sym (c.if-not-may.ensures.follows made s w stands)))
