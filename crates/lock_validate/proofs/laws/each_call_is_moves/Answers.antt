use Rattle.lock_validate.proofs.EachCall.{comes_of-made}
use Rattle.lock_validate.proofs.laws.each_call_is_moves.Goals as goal

pub returns : goal.returns
returns c = comes_of-made
