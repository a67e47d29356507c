use Rattle.run_laws.proofs.HomesHave.{alone-unshared}
use Rattle.run_laws.proofs.left.who_does_not_share_is_alone.Goals as goal

pub returns : goal.returns
returns c = alone-unshared
