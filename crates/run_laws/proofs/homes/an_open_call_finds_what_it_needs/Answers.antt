use Rattle.run_laws.proofs.OpenDecisions.{found-are, right-are}
use Rattle.run_laws.proofs.homes.an_open_call_finds_what_it_needs.Goals as goal

pub returns : goal.returns
returns c = record { found = found-are; right = right-are }
