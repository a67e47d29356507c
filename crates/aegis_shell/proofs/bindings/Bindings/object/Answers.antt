use Rattle.std.proofs.Common.{◌∙◌, ap}
use Rattle.aegis_shell.specs.Bindings.{object_at}
use Rattle.aegis_shell.proofs.Variables.{lookup-by_text}
use Rattle.aegis_shell.proofs.bindings.Bindings.object.Goals as goal

pub returns : goal.returns
returns c =
    c.copied.ensures ∙ (c.get.ensures.value
    ∙ (lookup-by_text (λ k. k.items) c.args.var.now c.self.inside.objects.entries
    ∙ ap (λ rows. object_at rows c.args.var.now) c.self.view_is))
