use Rattle.std.proofs.Common.{◌≡◌, ◌∙◌, length, map, reverse, sym, subst, arith}
use Rattle.node_runs.specs.RunHistories.{history_of}
use Rattle.node_runs.specs.Runs.{choice_of}
use Rattle.world_runs.proofs.LostFrames.{done-is}
use Rattle.run_laws.specs.LinkFaults.{fault_entries, link_faults, notices, marked}
use Rattle.run_laws.specs.Accounts.{is_marked, marked as marked_by_number}
use Rattle.run_laws.specs.NextNumbers.{SayNextNumbers}
use Rattle.run_laws.proofs.Marked.{marked-same}
use Rattle.run_laws.proofs.Numbers.{runs-number}
use Rattle.run_laws.proofs.Reversed.{count_by-reverse, faults-reverse, notices-reverse}
use Rattle.run_laws.proofs.accounts.an_account_is_of_its_run.Goals as goal

pub returns : goal.returns
returns c = λ plan happened s w setup run leads timely.
    let es = reverse happened in
    let faults : link_faults happened ≡ length (fault_entries (history_of s es)) =
    sym (faults-reverse happened) ∙ sym (c.each_link_fault_has_one_entry.ensures.events s setup es w run leads timely) in
    let told : notices happened ≡ notices es = sym (notices-reverse happened) in
    let gone : marked_by_number plan happened ≡ marked plan es =
    sym (count_by-reverse (is_marked plan) happened)
    ∙ marked-same plan es (subst SayNextNumbers (done-is s es w run leads) (runs-number s setup (map choice_of es) w leads timely).says) in
    let many = c.notices_bound_link_faults.ensures.eight_times s setup es w run leads timely in
    record {
      faults_are = faults;
      told_are = told;
      gone_are = gone;
      eight = omega (arith, faults, told, many);
      planned = λ planned. let few = c.notices_bound_link_faults.ensures.planned s plan setup es w planned leads timely in omega (arith, told, gone, few);
    }
