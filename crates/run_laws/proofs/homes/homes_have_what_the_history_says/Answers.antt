use Rattle.run_laws.proofs.HistoryHomes.{homes-always}
use Rattle.run_laws.proofs.homes.homes_have_what_the_history_says.Goals as goal

pub returns : goal.returns
returns c = homes-always
