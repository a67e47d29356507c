use Rattle.node_runs.proofs.Replaying.{replays-are}
use Rattle.node_runs.proofs.laws.homes_are_what_they_decided.Goals as goal

pub returns : goal.returns
returns c = λ s cs w e. replays-are s cs w e
