use Rattle.script_runner.specs.declared.words.Asked.TheVariants.{Generates}
use Rattle.script_runner.proofs.Due.{limit_for, no_read_fault}
use Rattle.script_runner.proofs.domain.generated_due.Goals as goal

pub returns-clause-due : goal.returns-clause-due
returns-clause-due g c = λ left. c.run_due.ensures.due left c.in_ok-script.ensures.script

pub returns-clause-no_read_fault : goal.returns-clause-no_read_fault
returns-clause-no_read_fault g c = λ is. no_read_fault c.in_ok-script.script c.args.turns c.run_due.result c.run_due.ensures.end is

pub returns-clause-limit : goal.returns-clause-limit
returns-clause-limit g c = λ left. limit_for (Generates c.args.seed c.args.turns) left c.in_ok-script.script c.run_due.result c.in_ok-script.ensures.script c.run_due.ensures.end
