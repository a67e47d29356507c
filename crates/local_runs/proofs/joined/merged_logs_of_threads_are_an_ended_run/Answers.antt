use Rattle.std.proofs.Common.{reverse}
use Rattle.local_runs.specs.Posts.{own_of}
use Rattle.local_runs.proofs.joined.merged_logs_of_threads_are_an_ended_run.Goals as goal

pub returns-clause-planned : goal.returns-clause-planned
returns-clause-planned c s plan posts logs events are kept of merged =
    c.threads_make_a_planned_run.ensures.planned s plan posts (reverse events) are kept (c.merged_logs_are_a_merge.ensures (own_of s posts) logs events of merged)

pub returns-clause-ended : goal.returns-clause-ended
returns-clause-ended c s plan posts logs events are kept of merged ended =
    c.threads_make_a_planned_run.ensures.ended s plan posts (reverse events) are kept (c.merged_logs_are_a_merge.ensures (own_of s posts) logs events of merged) ended
