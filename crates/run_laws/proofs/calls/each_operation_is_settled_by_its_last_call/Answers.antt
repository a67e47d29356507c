use Rattle.run_laws.proofs.Lasting.{last-calls-are}
use Rattle.run_laws.proofs.calls.each_operation_is_settled_by_its_last_call.Goals as goal

pub returns : goal.returns
returns c = last-calls-are
