use Rattle.run_laws.proofs.LiveRun.{live-are}
use Rattle.run_laws.proofs.homes.locks_that_are_kept_stand_at_their_homes.Goals as goal

pub returns : goal.returns
returns c = live-are
