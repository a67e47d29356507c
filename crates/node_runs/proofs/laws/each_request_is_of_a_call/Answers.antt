use Rattle.node_runs.proofs.Calls.{calls-are}
use Rattle.node_runs.proofs.laws.each_request_is_of_a_call.Goals as goal

pub returns : goal.returns
returns c = λ s procs cs w e. calls-are s procs cs w e
