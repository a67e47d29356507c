use Rattle.run_laws.proofs.Standing.{standing-are}
use Rattle.run_laws.proofs.homes.homes_stand_for_what_is_kept.Goals as goal

pub returns : goal.returns
returns c = standing-are
