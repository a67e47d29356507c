use Rattle.world_runs.specs.Faults.{faults_in}
use Rattle.world_runs.proofs.Faults.{runs-fault, runs-faultless, eight-each, apart-pairs, faultless-each}
use Rattle.world_runs.proofs.laws.each_link_fault_has_eight_notices.Goals as goal

pub returns : goal.returns
returns c = record {
  eight = λ s setup cs w e timely. eight-each w (runs-fault s setup cs w e timely);
  once = λ s setup cs w e timely. apart-pairs (faults_in w.trace) (runs-fault s setup cs w e timely).once;
  desk = λ s setup cs w e timely. faultless-each w (runs-faultless s setup cs w e timely);
}
