use Rattle.local_runs.proofs.LocalLogs.{logs-merge}
use Rattle.local_runs.proofs.merged.logs_of_local_runs_may_be_merged.Goals as goal

pub returns : goal.returns
returns c s owns ws logs are of apart = logs-merge s owns ws logs are of apart
