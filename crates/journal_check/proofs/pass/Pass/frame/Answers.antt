use Rattle.std.proofs.Common.{◌*◌, ◌<◌, ◌≤◌, refl, ap, sym, subst, ◌∙◌}
use Rattle.std.specs.Prelude.{option_copied}
use Rattle.uid_names.specs.declared.limits.TheConstants.{MAX_NODES}
use Rattle.fault_handler.specs.Desks.{IsNode}
use Rattle.journal_check.proofs.Coming.{has-links, kept-at, kept-frame, kept-nowhere}
use Rattle.journal_check.proofs.pass.Pass.frame.Goals as goal

pub link_of-link-requires-clause-few : goal.link_of-link-requires-clause-few
link_of-link-requires-clause-few g c =
    let r = c.requires.stands in
    let links = has-links g.P.Program.wants g.P.Program.becomes r.0 r.1 c.args.self.now r.2 r.3 in
    subst (λ k. k ≤ MAX_NODES) (sym (c.len-count.ensures ∙ c.args.self.now.nodes.ok.0)) links.few

pub index-requires : goal.index-requires
index-requires g c =
    let r = c.requires.stands in
    let links = has-links g.P.Program.wants g.P.Program.becomes r.0 r.1 c.args.self.now r.2 r.3 in
    subst (λ k. c.link_of-link.result < k) (ap (λ k. k * k) (c.len-count.ensures ∙ c.args.self.now.nodes.ok.0) ∙ (sym links.whole ∙ sym c.args.self.now.frames.ok.0)) c.link_of-link.ensures.within

pub returns-then-not-is_among : goal.returns-then-not-is_among
returns-then-not-is_among g c = λ made s w stands.
    let same = (c.len-count.ensures ∙ c.args.self.now.nodes.ok.0) ∙ stands.nodes.count in
    kept-nowhere g.P.Program.wants g.P.Program.becomes made s c.args.self.now w stands c.args.from c.args.to c.args.index (λ both.
    let no = c.if-not-is_among.ensures.1 (subst (λ k. IsNode k c.args.from) (sym same) both.0) in
    absurd (cc))

pub returns-then-not-is_among-2 : goal.returns-then-not-is_among-2
returns-then-not-is_among-2 g c = λ made s w stands.
    let same = (c.len-count.ensures ∙ c.args.self.now.nodes.ok.0) ∙ stands.nodes.count in
    kept-nowhere g.P.Program.wants g.P.Program.becomes made s c.args.self.now w stands c.args.from c.args.to c.args.index (λ both.
    let no = c.if-not-is_among-2.ensures.1 (subst (λ k. IsNode k c.args.to) (sym same) both.1) in
    absurd (cc))

pub returns : goal.returns
returns g c = λ made s w stands.
    let same = (c.len-count.ensures ∙ c.args.self.now.nodes.ok.0) ∙ stands.nodes.count in
    let sends = subst (λ k. IsNode k c.args.from) same (c.if-not-is_among.ensures.0 refl) in
    let receives = subst (λ k. IsNode k c.args.to) same (c.if-not-is_among-2.ensures.0 refl) in
    let kept = kept-at g.P.Program.wants g.P.Program.becomes made s c.args.self.now w stands c.len-count.result same c.args.from c.args.to sends receives c.link_of-link.result c.link_of-link.ensures.value c.index.result.now c.index.ensures in
    kept-frame w c.args.from c.args.to c.args.index c.index.result.now (option_copied c.frame.result) kept c.frame.ensures
