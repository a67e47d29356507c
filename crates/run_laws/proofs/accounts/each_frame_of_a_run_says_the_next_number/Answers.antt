use Rattle.std.proofs.Common.{map, subst}
use Rattle.node_runs.specs.Runs.{choice_of}
use Rattle.world_runs.proofs.LostFrames.{done-is, runs-sent}
use Rattle.run_laws.specs.NextNumbers.{SayNextNumbers}
use Rattle.run_laws.proofs.Numbers.{runs-number}
use Rattle.run_laws.proofs.accounts.each_frame_of_a_run_says_the_next_number.Goals as goal

pub returns : goal.returns
returns c = record {
  numbers = λ s setup es w run leads timely. subst SayNextNumbers (done-is s es w run leads) (runs-number s setup (map choice_of es) w leads timely).says;
  counts = λ s setup cs w leads timely n to node. (runs-number s setup cs w leads timely).counts n to node;
  links = λ s setup cs w leads timely from to. (runs-sent s cs w leads).frames from to;
}
