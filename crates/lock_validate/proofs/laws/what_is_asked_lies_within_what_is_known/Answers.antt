use Rattle.lock_validate.proofs.Bounded.{comes_of-bounded}
use Rattle.lock_validate.proofs.laws.what_is_asked_lies_within_what_is_known.Goals as goal

pub returns : goal.returns
returns c = comes_of-bounded
