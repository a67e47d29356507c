use Rattle.run_laws.proofs.SingleActs.{acts-of-last, open-no-act, told-no-act}
use Rattle.run_laws.proofs.calls.an_act_is_of_a_call_that_settles.Goals as goal

pub returns : goal.returns
returns c = record { acts = acts-of-last; open_ops = open-no-act; ended = told-no-act }
