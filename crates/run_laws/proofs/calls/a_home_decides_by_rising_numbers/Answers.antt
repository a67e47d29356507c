use Rattle.run_laws.proofs.DecisionOrder.{decisions-rise}
use Rattle.run_laws.proofs.calls.a_home_decides_by_rising_numbers.Goals as goal

pub returns : goal.returns
returns c = decisions-rise
