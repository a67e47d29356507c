use Rattle.naming_tree.specs.Turns.{IsReady}
use Rattle.naming_tree.specs.Changing.{changing_asks}
use Rattle.plain_machines.proofs.machines.change_to_end.Given as goal

abbrev pub invariant-steps : goal.invariant-steps
invariant-steps l = IsReady changing_asks l.machine l.told
