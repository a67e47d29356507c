use Rattle.world_runs.proofs.Planning.{turns-deliver}
use Rattle.world_runs.proofs.laws.what_waits_is_what_was_not_taken.Goals as goal

pub returns : goal.returns
returns c = λ s plan setup cs w e timely from to. ((turns-deliver s setup plan cs w e timely).order from to).parts
