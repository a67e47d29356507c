use Rattle.std.proofs.Common.{◌*◌, ◌<◌, refl, ap, sym, subst, ◌∙◌}
use Rattle.uid_names.specs.Names.{ProcName}
use Rattle.fault_handler.specs.Desks.{IsNode}
use Rattle.journal_check.specs.Passes.{IsToldBy}
use Rattle.journal_check.proofs.Coming.{calls-here, kept-at, told-nobody, told-nowhere}
use Rattle.journal_check.proofs.pass.Pass.heard.Goals as goal

pub index-requires : goal.index-requires
index-requires g c =
    let within = c.link_of-link.ensures.within in
    subst (λ k. c.link_of-link.result < k) (ap (λ k. k * k) (c.len-count.ensures ∙ c.args.self.now.nodes.ok.0) ∙ (sym c.requires.links.whole ∙ sym c.args.self.now.frames.ok.0)) within

pub returns-in_default : goal.returns-in_default
returns-in_default g c = λ made s w stands.
    told-nobody g.P.Program.wants g.P.Program.becomes made s c.args.self.now w stands c.args.node c.args.proc c.args.from c.args.to c.args.index (λ proc.
    let no = c.in_default.ensures.valid.1 proc in
    absurd (cc))

pub returns-then-not-is_among : goal.returns-then-not-is_among
returns-then-not-is_among g c = λ made s w stands.
    let same = (c.len-count.ensures ∙ c.args.self.now.nodes.ok.0) ∙ stands.nodes.count in
    told-nowhere g.P.Program.wants g.P.Program.becomes made s c.args.self.now w stands c.args.node c.args.proc c.args.from c.args.to c.args.index (λ both.
    let no = c.if-not-is_among.ensures.1 (subst (λ k. IsNode k c.args.from) (sym same) both.0) in
    absurd (cc))

pub returns-then-not-is_among-2 : goal.returns-then-not-is_among-2
returns-then-not-is_among-2 g c = λ made s w stands.
    let same = (c.len-count.ensures ∙ c.args.self.now.nodes.ok.0) ∙ stands.nodes.count in
    told-nowhere g.P.Program.wants g.P.Program.becomes made s c.args.self.now w stands c.args.node c.args.proc c.args.from c.args.to c.args.index (λ both.
    let no = c.if-not-is_among-2.ensures.1 (subst (λ k. IsNode k c.args.to) (sym same) both.1) in
    absurd (cc))

pub returns : goal.returns
returns g c = λ made s w stands.
    let same = (c.len-count.ensures ∙ c.args.self.now.nodes.ok.0) ∙ stands.nodes.count in
    let sends = subst (λ k. IsNode k c.args.from) same (c.if-not-is_among.ensures.0 refl) in
    let receives = subst (λ k. IsNode k c.args.to) same (c.if-not-is_among-2.ensures.0 refl) in
    let kept = kept-at g.P.Program.wants g.P.Program.becomes made s c.args.self.now w stands c.len-count.result same c.args.from c.args.to sends receives c.link_of-link.result c.link_of-link.ensures.value c.index.result.now c.index.ensures in
    subst (λ (p : ProcName). IsToldBy w p c.args.from c.args.to c.args.index c.told.result) c.in-Some.ensures.value (c.told.ensures w (calls-here g.P.Program.wants g.P.Program.becomes made s c.args.self.now w stands) kept)
