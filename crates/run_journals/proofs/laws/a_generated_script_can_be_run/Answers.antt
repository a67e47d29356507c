use Rattle.run_journals.proofs.Generated.{generated-runs}
use Rattle.run_journals.proofs.laws.a_generated_script_can_be_run.Goals as goal

pub returns : goal.returns
returns c = generated-runs
