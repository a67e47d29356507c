use Rattle.std.proofs.Common.{◌≡◌, None, ap, ◌∙◌}
use Rattle.script_reader.proofs.Drafting.{held-wire}
use Rattle.script_reader.proofs.draft.Draft.add_wire.Goals as goal

pub invariant_of-self : goal.invariant_of-self
invariant_of-self c =
    let none : c.self.inside.said_wire ≡ None = ap (λ s. s.said_wire) c.self.view_is ∙ c.requires.new in
    held-wire c.self.inside c.args.wire c.self.invariant none (c.requires.low, c.requires.high)
