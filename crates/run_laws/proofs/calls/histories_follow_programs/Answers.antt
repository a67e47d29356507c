use Rattle.run_laws.proofs.Following.{events-follow}
use Rattle.run_laws.proofs.calls.histories_follow_programs.Goals as goal

pub returns : goal.returns
returns c = events-follow
