use Rattle.script_runs.specs.Histories.{script_history}
use Rattle.mail_runs.proofs.laws.ended_runs_keep_mailboxes.Goals as goal

pub returns : goal.returns
returns c = λ s content start events w is.
    c.histories_keep_mailboxes.ensures s content start (script_history s events) (c.ended_runs_have_such_histories.ensures s content start events w is)
