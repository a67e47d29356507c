-- The nodes of a script at the start.
use Rattle.std.specs.Prelude.{ℕ, ◌==◌, ◌≡◌, Option, List, [], map, filter}
use Rattle.uid_names.specs.Names.{ProcName}
use Rattle.script_reader.specs.Scripts.{Content}
use Rattle.aegis_shell.specs.Shells.{Shelled, shell_of, shell_wants, shell_after}
use Rattle.node_runs.specs.Setups.{given}
use Rattle.node_runs.specs.NodeStates.{first_node}
use Rattle.node_core.specs.Programs.{program_in}
use Rattle.node_core.specs.Nodes.{Noted, Stands}
use Rattle.script_runs.specs.Processes.{processes_of}
use Rattle.script_runs.specs.Setups.{setup_of}

-- the shells of a node's processes among these, each with its number there
abbrev pub shells_among : Content → ℕ → List ProcName → List (ℕ × Shelled)
shells_among s n procs = map (λ p. (p.number, shell_of s p)) (filter (λ p. p.node == n) procs)

-- the shell of each process of a script, as it is made
abbrev pub made_shell : Content → ℕ → ℕ → Option Shelled
made_shell s n p = program_in (shells_among s n (processes_of s.commands)) p

-- a node of a script, as it is made
pub record IsFirstNode (s : Content) (n : ℕ) (x : Noted Shelled) : Type 0 where
  pub stands : Stands shell_wants shell_after (made_shell s n) (given (setup_of s) n) x (first_node (given (setup_of s) n))
  pub log : x.log ≡ record { node = n; events = [] }
