use Rattle.local_runs.proofs.Joining.{joined-runs, joined-delivered}
use Rattle.local_runs.proofs.joined.served_posts_are_local_runs.Goals as goal

pub returns-clause-runs : goal.returns-clause-runs
returns-clause-runs c s plan posts are = joined-runs s plan posts are c.frames_have_one_spelling.ensures.one

pub returns-clause-delivered : goal.returns-clause-delivered
returns-clause-delivered c s plan posts are = joined-delivered s plan posts are c.frames_have_one_spelling.ensures.one
