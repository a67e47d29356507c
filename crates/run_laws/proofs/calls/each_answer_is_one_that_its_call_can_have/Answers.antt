use Rattle.run_laws.proofs.Fitting.{answers-fit}
use Rattle.run_laws.proofs.calls.each_answer_is_one_that_its_call_can_have.Goals as goal

pub returns : goal.returns
returns c = answers-fit
