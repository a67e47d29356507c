use Rattle.local_runs.proofs.MergedLogs.{merge-of}
use Rattle.local_runs.proofs.merged.merged_logs_are_a_merge.Goals as goal

pub returns : goal.returns
returns c owns logs events are is = merge-of owns logs events are is
