use Rattle.plain_machines.proofs.Beginning.{add_begun}
use Rattle.plain_machines.proofs.machines.add.Goals as goal

pub add_to_end-requires : goal.add_to_end-requires
add_to_end-requires c = add_begun _ _ _ _ _ _ _ c.in_ok-machine.ensures c.requires.path
