use Rattle.explored_runs.proofs.Outcomes.{came-of-run}
use Rattle.explored_runs.proofs.came.came_of.Goals as goal

pub returns-in-Ok : goal.returns-in-Ok
returns-in-Ok c = came-of-run c.args.script.now c.args.number c.in-Ok.ran c.came_of_run.result c.in-Ok.ensures.ran c.came_of_run.ensures
