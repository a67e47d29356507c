use Rattle.run_laws.proofs.HomeWords.{words-are}
use Rattle.run_laws.proofs.homes.homes_say_what_one_store_says.Goals as goal

pub returns : goal.returns
returns c = words-are
