use Rattle.run_laws.proofs.AskedHomes.{calls-at-homes}
use Rattle.run_laws.proofs.desks.each_call_asks_the_home_of_its_object.Goals as goal

pub returns : goal.returns
returns c = calls-at-homes
