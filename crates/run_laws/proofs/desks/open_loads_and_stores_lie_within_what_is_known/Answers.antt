use Rattle.run_laws.proofs.OpenTasks.{step-within, reached-within, runs-within}
use Rattle.run_laws.proofs.desks.open_loads_and_stores_lie_within_what_is_known.Goals as goal

pub returns : goal.returns
returns c = record { step = step-within; reached = reached-within; runs = runs-within }
