use Rattle.run_laws.proofs.OpenTasks.{carried-transits}
use Rattle.run_laws.proofs.desks.a_process_moves_what_its_call_asks.Goals as goal

pub returns : goal.returns
returns c = carried-transits
