use Rattle.run_laws.proofs.Known.{known-always}
use Rattle.run_laws.proofs.Moving.{event-moves-run}
use Rattle.run_laws.proofs.moves.each_event_moves_the_history.Goals as goal

pub returns : goal.returns
returns c = λ s setup. event-moves-run s setup (known-always s setup)
