use Rattle.world_runs.proofs.NamedNodes.{world-names, run-names, picked-names}
use Rattle.world_runs.proofs.laws.events_name_nodes.Goals as goal

pub returns : goal.returns
returns c = record {
  worlds = λ s setup cs w e timely. world-names s setup cs w e timely;
  runs = λ s setup es w run is timely. run-names s setup es w run is timely;
  picked = λ s plan seed last setup most es is. picked-names s setup plan seed last most es is;
}
