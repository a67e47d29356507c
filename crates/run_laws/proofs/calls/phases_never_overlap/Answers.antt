use Rattle.run_laws.proofs.Phased.{events-phased}
use Rattle.run_laws.proofs.calls.phases_never_overlap.Goals as goal

pub returns : goal.returns
returns c = events-phased
