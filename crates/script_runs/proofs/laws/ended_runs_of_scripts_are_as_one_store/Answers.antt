use Rattle.std.proofs.Common.{List, length, ap, ◌∙◌, arith}
use Rattle.world_runs.specs.Faults.{CallName}
use Rattle.script_runs.specs.Setups.{setup_of}
use Rattle.script_runs.proofs.Faultless.{faultless-is}
use Rattle.script_runs.proofs.Running.{replies-heard, asked-heard}
use Rattle.script_runs.proofs.laws.ended_runs_of_scripts_are_as_one_store.Goals as goal

pub returns : goal.returns
returns c = λ s content start events w is.
    let setup = c.scripts_set_nodes_up.ensures s content start in
    let right = c.every_run_is_right.ensures.last (setup_of s) setup events w is.run.planned.run is.run.leads is.timely in
    let whole = c.an_ended_run_ends_its_programs.ensures.history (setup_of s) s.plan setup (c.scripts_are_paced.ensures s content) events w is.run is.timely in
    record {
      ended = is.run.ended;
      legal = right.legal;
      follows = right.follows;
      whole = whole;
      phased = right.phased;
      heard = replies-heard s events w is.run.leads right.replies;
      asked = asked-heard s events w is.run.leads right.asked;
      all_answered = c.each_process_has_one_answer_for_each_command.ensures.each s content start events w is;
      homes = right.homes;
      eight_notices = c.each_entry_of_a_link_fault_has_eight_notices.ensures.eight (setup_of s) s.plan setup events w is.run.planned is.run.leads is.timely;
      few_faults =
          let eight = c.notices_bound_link_faults.ensures.eight_times (setup_of s) setup events w is.run.planned.run is.run.leads is.timely in
          let few = c.notices_bound_link_faults.ensures.planned (setup_of s) s.plan setup events w is.run.planned is.run.leads is.timely in
          omega (arith, eight, few);
      faultless = λ loses.
          faultless-is s events
          (c.each_link_fault_has_one_entry.ensures.calls (setup_of s) setup events w is.run.leads is.timely
          ∙ ap (λ (calls : List CallName). length calls) (c.link_faults_are_few.ensures.none (setup_of s) s.plan setup loses events w is.run.planned is.run.leads is.timely))
          right.legal whole;
    }
