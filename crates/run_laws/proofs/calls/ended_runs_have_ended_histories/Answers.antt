use Rattle.run_laws.proofs.Ending.{events-ended}
use Rattle.run_laws.proofs.calls.ended_runs_have_ended_histories.Goals as goal

pub returns : goal.returns
returns c = events-ended
