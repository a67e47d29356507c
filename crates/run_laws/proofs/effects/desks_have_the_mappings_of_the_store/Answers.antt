use Rattle.run_laws.proofs.Targets.{targets-told}
use Rattle.run_laws.proofs.effects.desks_have_the_mappings_of_the_store.Goals as goal

pub returns : goal.returns
returns c = targets-told
