use Rattle.node_runs.proofs.Decisions.{decisions-are}
use Rattle.node_runs.proofs.laws.each_call_is_decided_once.Goals as goal

pub returns : goal.returns
returns c = λ s procs cs w e. decisions-are s procs cs w e
