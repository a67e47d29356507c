use Rattle.node_runs.proofs.SampleRuns.{loaded_runs, loaded_runs_too, loaded_dirty, loaded_none, loaded_two, stored_runs, stored_dirty}
use Rattle.node_runs.proofs.laws.the_third_runs.Goals as goal

pub returns : goal.returns
returns c = record { oldest = loaded_runs; another = loaded_runs_too; not_dirty = loaded_dirty; not_none = loaded_none; not_two = loaded_two; home = stored_runs; home_only = stored_dirty }
