use Rattle.node_runs.proofs.Running.{run-keeps}
use Rattle.node_runs.proofs.laws.each_node_of_a_run_agrees_with_its_desk.Goals as goal

pub returns : goal.returns
returns c = record {
  nodes = λ s setup cs w e timely n node. ((run-keeps s setup cs w e).kept timely).nodes n node;
  frames = λ s setup cs w e timely. ((run-keeps s setup cs w e).kept timely).frames;
  events = λ s setup cs w e timely. ((run-keeps s setup cs w e).kept timely).events;
  wire = λ s setup cs w e. (run-keeps s setup cs w e).wire;
}
