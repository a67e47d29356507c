use Rattle.run_journals.proofs.checked.journals_of_runs_are_accepted.Goals as goal

pub returns : goal.returns
returns c = λ s es w can run recent. record {
  journal = (c.the_journal_of_a_script_tells_its_run.ensures.ended s can es w run).journal;
  run = run;
  recent = recent;
}
