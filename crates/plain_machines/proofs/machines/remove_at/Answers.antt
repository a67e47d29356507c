use Rattle.plain_machines.proofs.Beginning.{change_begun}
use Rattle.plain_machines.proofs.machines.remove_at.Goals as goal

pub change_to_end-requires : goal.change_to_end-requires
change_to_end-requires c = change_begun _ _ _ c.remove-machine.ensures
