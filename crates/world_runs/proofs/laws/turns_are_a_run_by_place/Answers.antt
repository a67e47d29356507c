use Rattle.world_runs.proofs.Merging.{turns-merge}
use Rattle.world_runs.proofs.Planning.{turns-planned}
use Rattle.world_runs.proofs.laws.turns_are_a_run_by_place.Goals as goal

pub returns : goal.returns
returns c = record {
  planned = λ s plan setup kept cs w e timely. turns-planned s setup plan kept cs w e timely;
  leads = λ s plan setup cs w e timely. let m = (turns-merge s setup plan cs w e).merged timely in (m.world, m.run, m.done, m.like);
  own = λ s plan setup cs w e timely n. ((turns-merge s setup plan cs w e).merged timely).own n;
}
