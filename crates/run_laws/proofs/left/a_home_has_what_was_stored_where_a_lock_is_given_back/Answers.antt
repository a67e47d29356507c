use Rattle.run_laws.proofs.ReleasesAre.{released-are}
use Rattle.run_laws.proofs.left.a_home_has_what_was_stored_where_a_lock_is_given_back.Goals as goal

pub returns : goal.returns
returns c = released-are
