use Rattle.std.proofs.Common.{arith}
use Rattle.run_laws.proofs.faults.notices_bound_link_faults.Goals as goal

pub returns : goal.returns
returns c = record {
  eight_times = λ s setup es w run leads timely.
      let same = c.each_link_fault_has_one_entry.ensures.calls s setup es w leads timely in
      let many = c.link_faults_are_few.ensures.notices s setup es w run leads timely in
      omega (arith, same, many);
  planned = λ s plan setup es w planned leads timely. c.link_faults_are_few.ensures.told s plan setup es w planned leads timely;
}
