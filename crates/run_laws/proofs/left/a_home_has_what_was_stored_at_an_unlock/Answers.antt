use Rattle.run_laws.proofs.Known.{known-always}
use Rattle.run_laws.proofs.Unlocks.{homes-have-all}
use Rattle.run_laws.proofs.left.a_home_has_what_was_stored_at_an_unlock.Goals as goal

pub returns : goal.returns
returns c = λ s setup es w run e timely. homes-have-all s setup (known-always s setup) es w run e timely
