use Rattle.run_laws.proofs.OpenRuns.{none-ended}
use Rattle.run_laws.proofs.ends.no_node_ends_while_an_operation_is_open.Goals as goal

pub returns : goal.returns
returns c = none-ended
