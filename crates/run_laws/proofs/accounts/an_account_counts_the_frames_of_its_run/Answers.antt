use Rattle.std.proofs.Common.{map, subst}
use Rattle.node_runs.specs.Runs.{choice_of}
use Rattle.world_runs.proofs.LostFrames.{done-is}
use Rattle.run_laws.specs.Accounts.{is_marked}
use Rattle.run_laws.specs.NextNumbers.{SayNextNumbers}
use Rattle.run_laws.proofs.Marked.{marked-same}
use Rattle.run_laws.proofs.Numbers.{runs-number}
use Rattle.run_laws.proofs.Reversed.{count_by-reverse}
use Rattle.run_laws.proofs.accounts.an_account_counts_the_frames_of_its_run.Goals as goal

pub returns : goal.returns
returns c = record {
  same = λ s plan setup es w run leads timely.
      marked-same plan es (subst SayNextNumbers (done-is s es w run leads) (runs-number s setup (map choice_of es) w leads timely).says);
  order = λ plan es. count_by-reverse (is_marked plan) es;
}
