use Rattle.run_laws.proofs.DeskSteps.{step-desk}
use Rattle.run_laws.proofs.desks.each_event_moves_its_desk_for_one_operation.Goals as goal

pub returns : goal.returns
returns c = step-desk
