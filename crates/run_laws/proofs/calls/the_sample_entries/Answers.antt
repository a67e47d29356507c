use Rattle.std.proofs.Common.{refl}
use Rattle.run_laws.proofs.calls.the_sample_entries.Goals as goal

pub returns : goal.returns
returns c = record { first = refl; first_heard = refl; second = refl; second_heard = refl; none = refl }
