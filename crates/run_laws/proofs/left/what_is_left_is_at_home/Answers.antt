use Rattle.run_laws.proofs.LeftRun.{left-are}
use Rattle.run_laws.proofs.left.what_is_left_is_at_home.Goals as goal

pub returns : goal.returns
returns c = left-are
