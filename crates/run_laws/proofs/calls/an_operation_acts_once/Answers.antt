use Rattle.run_laws.proofs.SingleActs.{acts-once}
use Rattle.run_laws.proofs.calls.an_operation_acts_once.Goals as goal

pub returns : goal.returns
returns c = acts-once
