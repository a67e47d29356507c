use Rattle.plain_machines.proofs.Beginning.{walk_begun}
use Rattle.plain_machines.proofs.machines.walk.Goals as goal

pub walk_to_end-requires : goal.walk_to_end-requires
walk_to_end-requires c = walk_begun _ _ _ _ _ c.in_ok-machine.ensures c.requires
