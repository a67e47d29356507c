use Rattle.naming_tree.specs.Turns.{IsReady}
use Rattle.naming_tree.specs.ByPaths.{by_path_asks}
use Rattle.plain_machines.proofs.machines.list_to_end.Given as goal

abbrev pub invariant-steps : goal.invariant-steps
invariant-steps l = IsReady by_path_asks l.machine l.told
