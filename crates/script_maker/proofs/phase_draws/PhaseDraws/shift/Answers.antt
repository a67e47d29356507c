use Rattle.std.proofs.Common.{ap, ◌∙◌}
use Rattle.script_maker.specs.Generated.{shift_of}
use Rattle.script_maker.proofs.phase_draws.PhaseDraws.shift.Goals as goal

pub returns-clause-value : goal.returns-clause-value
returns-clause-value c = c.self.invariant.shift ∙ ap shift_of c.self.view_is
