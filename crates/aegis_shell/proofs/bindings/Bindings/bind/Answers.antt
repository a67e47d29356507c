use Rattle.std.proofs.Common.{◌∙◌, ap}
use Rattle.aegis_shell.specs.Bindings.{rebound}
use Rattle.aegis_shell.proofs.Variables.{by_text, by_text-insert}
use Rattle.aegis_shell.proofs.bindings.Bindings.bind.Goals as goal

pub returns : goal.returns
returns c =
    let before = c.self.inside.objects.entries in
    ap (by_text (λ k. k.items)) c.in_ok-insert.ensures.entries
    ∙ (by_text-insert (λ k. k.items) before c.in_ok-var.var c.args.uid
    ∙ (ap (λ key. rebound key c.args.uid (by_text (λ k. k.items) before)) c.in_ok-var.ensures.items
    ∙ ap (rebound c.args.var.now c.args.uid) c.self.view_is))
