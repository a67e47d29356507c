use Rattle.std.proofs.Common.{ap, ◌∙◌}
use Rattle.script_maker.specs.Generated.{offset_of}
use Rattle.script_maker.proofs.phase_draws.PhaseDraws.offset.Goals as goal

pub returns-clause-value : goal.returns-clause-value
returns-clause-value c = c.self.invariant.offsets c.args.q c.requires ∙ ap (λ begin. offset_of begin c.args.q) c.self.view_is
