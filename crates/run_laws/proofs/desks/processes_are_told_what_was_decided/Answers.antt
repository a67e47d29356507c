use Rattle.run_laws.proofs.ToldAnswers.{told-are}
use Rattle.run_laws.proofs.desks.processes_are_told_what_was_decided.Goals as goal

pub returns : goal.returns
returns c = told-are
