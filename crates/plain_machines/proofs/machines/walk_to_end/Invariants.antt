use Rattle.naming_tree.specs.Turns.{IsReady}
use Rattle.naming_tree.specs.Walking.{walking_asks}
use Rattle.plain_machines.proofs.machines.walk_to_end.Given as goal

abbrev pub invariant-steps : goal.invariant-steps
invariant-steps l = IsReady walking_asks l.machine l.told
