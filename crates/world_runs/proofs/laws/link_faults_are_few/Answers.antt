use Rattle.world_runs.proofs.LostFrames.{many-notices, few-notices, few-faults, no-faults}
use Rattle.world_runs.proofs.laws.link_faults_are_few.Goals as goal

pub returns : goal.returns
returns c = record {
  notices = many-notices;
  told = λ s plan setup es w planned is timely. few-notices s setup plan es w planned is timely;
  eight_times = λ s plan setup es w planned is timely. few-faults s setup plan es w planned is timely;
  none = λ s plan setup none es w planned is timely. no-faults plan none s setup es w planned is timely;
}
