use Rattle.script_runs.proofs.Pacing.{paced-is}
use Rattle.script_runs.proofs.laws.scripts_are_paced.Goals as goal

pub returns : goal.returns
returns c = λ s content. paced-is c.shells_go_by_all_they_heard.ensures.asks s content
