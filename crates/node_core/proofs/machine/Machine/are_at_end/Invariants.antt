use Rattle.std.proofs.Common.{◌≡◌, ◌≤◌, length, drop}
use Rattle.std.specs.List.{list_all}
use Rattle.node_runs.specs.NodeStates.{is_at_end}
use Rattle.node_core.specs.Programs.{numbers_in}
use Rattle.node_core.specs.Machines.{state_of}
use Rattle.node_core.proofs.machine.Machine.are_at_end.Given as goal

-- it is left to ask for the programs behind what was seen
abbrev pub invariant-loop-program : goal.invariant-loop-program
invariant-loop-program g l =
    record {
      same : l.program-items ≡ l.self.programs.items;
      most : l.program-index ≤ length l.program-items;
      ends : list_all (is_at_end (state_of l.self)) (numbers_in l.self.programs.items) ≡ list_all (is_at_end (state_of l.self)) (numbers_in (drop l.program-index l.program-items));
    }
