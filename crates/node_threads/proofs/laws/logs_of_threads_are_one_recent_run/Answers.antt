use Rattle.node_threads.proofs.Recent.{ends-together}
use Rattle.node_threads.proofs.laws.logs_of_threads_are_one_recent_run.Goals as goal

pub returns : goal.returns
returns c s plan logs owns worlds setup kept are events merged =
    ends-together s plan logs owns worlds setup kept are events (c.merged_logs_are_one_run.ensures logs events merged s owns worlds are.runs are.logs_of)
