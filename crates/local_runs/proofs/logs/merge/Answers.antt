use Rattle.std.proofs.lemmas.Result.{IfOk-weaker}
use Rattle.local_runs.proofs.logs.merge.Goals as goal

pub returns-clause-run : goal.returns-clause-run
returns-clause-run c = IfOk-weaker c.by_place.result _ _ (λ m merged. c.merged_logs_are_one_run.ensures c.args.logs.items m.events merged) c.by_place.ensures
