use Rattle.std.proofs.Common.{ap, ◌∙◌}
use Rattle.script_maker.specs.Generated.{number_of}
use Rattle.script_maker.proofs.phase_draws.PhaseDraws.number.Goals as goal

pub returns : goal.returns
returns c = c.self.invariant.numbers c.args.q c.requires ∙ ap (λ begin. number_of begin c.args.q) c.self.view_is
