use Rattle.run_laws.proofs.AnsweredCalls.{open-answered}
use Rattle.run_laws.proofs.ends.a_home_answers_each_open_call.Goals as goal

pub returns : goal.returns
returns c = open-answered
