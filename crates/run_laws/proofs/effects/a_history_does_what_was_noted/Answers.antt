use Rattle.run_laws.proofs.NotedEffects.{effects-noted}
use Rattle.run_laws.proofs.effects.a_history_does_what_was_noted.Goals as goal

pub returns : goal.returns
returns c = effects-noted
