use Rattle.std.specs.Option.{option_copied}
use Rattle.plain_machines.proofs.Beginning.{goes_on}
use Rattle.naming_tree.specs.Walking.{walking_asks, walking_after}
use Rattle.plain_machines.proofs.machines.walk_to_end.Goals as goal

pub steps-preserved : goal.steps-preserved
steps-preserved c = goes_on walking_asks walking_after c.steps.machine _ (option_copied c.as_ref.result) _ _ c.in_ok-step.ensures.after c.in_ok-step.ensures.step (rw c.in-Ok.is at c.in_ok-reply.ensures)
