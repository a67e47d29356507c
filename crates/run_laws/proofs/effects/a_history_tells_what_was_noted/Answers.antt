use Rattle.run_laws.proofs.NotedDeeds.{deeds-told}
use Rattle.run_laws.proofs.effects.a_history_tells_what_was_noted.Goals as goal

pub returns : goal.returns
returns c = deeds-told
