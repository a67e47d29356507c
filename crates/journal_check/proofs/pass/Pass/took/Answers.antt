use Rattle.std.proofs.Common.{◌*◌, ◌<◌, Option, refl, ap, sym, subst, ◌∙◌}
use Rattle.fault_handler.specs.Desks.{IsNode}
use Rattle.node_core.specs.declared.setup.Incoming as code
use Rattle.journal_check.specs.Passes.{IsTakenAs}
use Rattle.journal_check.proofs.Coming.{calls-here, kept-at, take-nowhere}
use Rattle.journal_check.proofs.pass.Pass.took.Goals as goal

pub index-requires : goal.index-requires
index-requires g c =
    let within = c.link_of-link.ensures.within in
    let many = (c.len-count.ensures ∙ c.args.self.now.nodes.ok.0) in
    let whole = c.requires.links.whole in
    subst (λ k. c.link_of-link.result < k) (ap (λ k. k * k) many ∙ (sym whole ∙ sym c.args.self.now.frames.ok.0)) within

pub returns-then-not-is_among : goal.returns-then-not-is_among
returns-then-not-is_among g c = λ made s w stands.
    let same = (c.len-count.ensures ∙ c.args.self.now.nodes.ok.0) ∙ stands.nodes.count in
    take-nowhere g.P.Program.wants g.P.Program.becomes made s c.args.self.now w stands c.args.node c.args.from c.args.index (λ node.
    let no = c.if-not-is_among.ensures.1 (subst (λ k. IsNode k c.args.from) (sym same) node) in
    absurd (cc))

pub returns-in-Some : goal.returns-in-Some
returns-in-Some g c = λ made s w stands.
    let same = (c.len-count.ensures ∙ c.args.self.now.nodes.ok.0) ∙ stands.nodes.count in
    let sends = subst (λ k. IsNode k c.args.from) same (c.if-not-is_among.ensures.0 refl) in
    let receives = subst (λ k. IsNode k c.args.node) stands.nodes.count c.requires.node in
    let kept = kept-at g.P.Program.wants g.P.Program.becomes made s c.args.self.now w stands c.len-count.result same c.args.from c.args.node sends receives c.link_of-link.result c.link_of-link.ensures.value c.index.result.now c.index.ensures in
    subst (λ (o : Option code.Incoming). IsTakenAs w c.args.from c.args.node c.args.index o) c.in-Some.is (c.in_ok-incoming.ensures w (calls-here g.P.Program.wants g.P.Program.becomes made s c.args.self.now w stands) kept)

pub returns-in-None : goal.returns-in-None
returns-in-None g c = λ made s w stands.
    let same = (c.len-count.ensures ∙ c.args.self.now.nodes.ok.0) ∙ stands.nodes.count in
    let sends = subst (λ k. IsNode k c.args.from) same (c.if-not-is_among.ensures.0 refl) in
    let receives = subst (λ k. IsNode k c.args.node) stands.nodes.count c.requires.node in
    let kept = kept-at g.P.Program.wants g.P.Program.becomes made s c.args.self.now w stands c.len-count.result same c.args.from c.args.node sends receives c.link_of-link.result c.link_of-link.ensures.value c.index.result.now c.index.ensures in
    subst (λ (o : Option code.Incoming). IsTakenAs w c.args.from c.args.node c.args.index o) c.in-None.is (c.in_ok-incoming.ensures w (calls-here g.P.Program.wants g.P.Program.becomes made s c.args.self.now w stands) kept)
