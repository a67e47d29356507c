use Rattle.run_laws.proofs.States.{states-told}
use Rattle.run_laws.proofs.effects.desks_have_the_locks_that_were_told.Goals as goal

pub returns : goal.returns
returns c = states-told
