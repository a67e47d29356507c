-- What the nodes of a script are given.
use Rattle.std.specs.Prelude.{ℕ, ◌==◌, List, length, map, filter, take}
use Rattle.uid_names.specs.Names.{ProcName}
use Rattle.script_reader.specs.Scripts.{Content, wire_of}
use Rattle.aegis_shell.specs.Asking.{ask}
use Rattle.node_runs.specs.Doings.{node_numbers}
use Rattle.node_runs.specs.Setups.{Setup}
use Rattle.script_runs.specs.Processes.{processes_of}

-- the numbers of a node's processes among these, in order
abbrev pub numbers_at : List ProcName → ℕ → List ℕ
numbers_at procs n = map (λ p. p.number) (filter (λ p. p.node == n) procs)

-- of each node, the processes that have a command
abbrev pub programs_of : Content → List (List ℕ)
programs_of s = map (numbers_at (processes_of s.commands)) (take (length s.nodes) node_numbers)

-- the opening, version, frames and phases that the script says, and the processes that have a command, each of which asks what the
-- script gives it to do
abbrev pub setup_of : Content → Setup
setup_of s =
    record {
      opening = s.opening;
      wire = wire_of s;
      frames = map (λ n. n.frames) s.nodes;
      phases = s.phases;
      programs = programs_of s;
      asks = ask s;
    }
