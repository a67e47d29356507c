use Rattle.plain_machines.proofs.Beginning.{drop_begun}
use Rattle.plain_machines.proofs.machines.remove.Goals as goal

pub remove_to_end-requires : goal.remove_to_end-requires
remove_to_end-requires c = drop_begun _ _ _ _ c.in_ok-machine.ensures c.requires
