use Rattle.run_laws.proofs.every.an_ended_run_ends_its_programs.Goals as goal

pub returns : goal.returns
returns c = record {
  history = λ s plan setup paced es w run timely. c.ended_runs_have_ended_histories.ensures s setup paced es w run.leads timely run.ended;
  programs = λ s plan setup paced es w run timely. c.programs_of_ended_runs_are_done.ensures s setup paced es w run.leads timely run.ended;
}
