use Rattle.std.proofs.Common.{ap, ◌∙◌}
use Rattle.std.specs.Prelude.{is_some}
use Rattle.script_reader.specs.Variables.{is_declared}
use Rattle.script_reader.proofs.Declaring.{is_some-declared}
use Rattle.script_reader.proofs.draft.Draft.is_declared.Goals as goal

pub returns : goal.returns
returns c =
    c.is_some.ensures ∙ (ap is_some (c.object.ensures ∙ c.self.invariant.declared c.args.var.now)
    ∙ (is_some-declared c.self.inside.objects.items c.args.var.now ∙ ap (λ s. is_declared s.objects c.args.var.now) c.self.view_is))
