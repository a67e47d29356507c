use Rattle.run_journals.proofs.Steps.{initial-recent}
use Rattle.run_journals.proofs.checked.an_initial_part_of_a_recent_run_is_one.Goals as goal

pub returns : goal.returns
returns c = initial-recent
