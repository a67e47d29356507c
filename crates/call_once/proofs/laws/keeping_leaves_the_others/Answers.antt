use Rattle.call_once.proofs.KeptCalls.{call_of-with_call}
use Rattle.call_once.proofs.laws.keeping_leaves_the_others.Goals as goal

pub returns : goal.returns
returns g c = call_of-with_call
