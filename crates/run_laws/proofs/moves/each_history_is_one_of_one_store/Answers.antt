use Rattle.run_laws.proofs.Known.{known-always}
use Rattle.run_laws.proofs.Moving.{legal-events}
use Rattle.run_laws.proofs.moves.each_history_is_one_of_one_store.Goals as goal

pub returns : goal.returns
returns c = λ s setup. legal-events s setup (known-always s setup)
