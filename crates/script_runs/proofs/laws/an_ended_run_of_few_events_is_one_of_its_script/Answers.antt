use Rattle.script_runs.specs.Setups.{setup_of}
use Rattle.script_runs.proofs.laws.an_ended_run_of_few_events_is_one_of_its_script.Goals as goal

pub returns : goal.returns
returns c = λ s events w run few. record { run = run; timely = c.a_run_of_few_events_is_timely.ensures (setup_of s) events w run.planned.run run.leads few }
