use Rattle.plain_machines.proofs.Beginning.{list_begun}
use Rattle.plain_machines.proofs.machines.list.Goals as goal

pub list_to_end-requires : goal.list_to_end-requires
list_to_end-requires c = list_begun _ _ _ _ c.in_ok-machine.ensures c.requires
