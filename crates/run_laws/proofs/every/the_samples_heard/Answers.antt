use Rattle.std.proofs.Common.{refl}
use Rattle.run_laws.proofs.every.the_samples_heard.Goals as goal

pub returns : goal.returns
returns c = record { asks = refl; phases = refl; fewer = refl; nothing = refl; first_run = refl }
