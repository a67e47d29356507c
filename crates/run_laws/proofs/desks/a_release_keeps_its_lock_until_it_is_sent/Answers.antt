use Rattle.run_laws.proofs.WaitingReleases.{step-release, reached-release, runs-release}
use Rattle.run_laws.proofs.desks.a_release_keeps_its_lock_until_it_is_sent.Goals as goal

pub returns : goal.returns
returns c = record { step = step-release; reached = reached-release; runs = runs-release }
