use Rattle.run_laws.proofs.ToldRising.{told-rises}
use Rattle.run_laws.proofs.calls.operations_end_in_order.Goals as goal

pub returns : goal.returns
returns c = told-rises
