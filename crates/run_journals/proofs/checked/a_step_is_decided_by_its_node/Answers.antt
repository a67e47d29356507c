use Rattle.run_journals.proofs.Steps.{good, only, stands-above}
use Rattle.run_journals.proofs.checked.a_step_is_decided_by_its_node.Goals as goal

pub returns : goal.returns
returns c = record {
  good = λ s setup e es w recent leads few above decides. good s setup (c.a_run_of_few_events_is_timely.ensures s) e es w leads few recent above decides;
  above = λ s e es recent. stands-above s e es recent.run;
  only = λ s setup e es w leads few recent. only s setup (c.a_run_of_few_events_is_timely.ensures s) e es w leads few recent;
}
