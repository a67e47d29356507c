use Rattle.local_runs.proofs.OneOrder.{a-merge}
use Rattle.local_runs.proofs.merged.local_runs_have_a_merge.Goals as goal

pub returns : goal.returns
returns c s owns ws are = a-merge s owns ws are
