use Rattle.script_runs.specs.Setups.{setup_of}
use Rattle.run_journals.proofs.checked.an_accepted_journal_is_of_one_store.Goals as goal

pub returns : goal.returns
returns c = record {
  one_store = λ s bytes es w can is. c.ended_runs_of_scripts_are_as_one_store.ensures s can.content can.start es w is.run;
  right = λ s bytes es w can is.
      c.every_run_is_right.ensures.timely (setup_of s) (c.scripts_set_nodes_up.ensures s can.content can.start) es w is.run.run.planned.run is.run.run.leads is.run.timely;
  few = λ s bytes es w few is. record {
    journal = is.journal;
    run = c.an_ended_run_of_few_events_is_one_of_its_script.ensures s es w (record { planned = is.planned; leads = is.leads; ended = is.ended }) few;
    recent = is.recent;
  };
}
