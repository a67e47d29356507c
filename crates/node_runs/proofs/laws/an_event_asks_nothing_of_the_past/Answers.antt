use Rattle.node_runs.proofs.AlikeSteps.{enabled-alike, step-alike}
use Rattle.node_runs.proofs.laws.an_event_asks_nothing_of_the_past.Goals as goal

pub returns : goal.returns
returns c = record {
  enabled = λ g h n m what incoming given alike. enabled-alike g h n m what incoming given alike;
  step = λ g h n m what incoming s given alike may e. step-alike g h n m what incoming given alike s may e;
}
