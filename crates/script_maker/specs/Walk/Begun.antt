-- The script of a seed as far as it has come.
use Rattle.std.specs.Prelude.{ℕ, ◌≡◌, ◌+◌, None, false, List, [], ◌++◌, length, map}
use Rattle.std.specs.List.{AllByRecursion, range_with_len}
use Rattle.uid_names.specs.Wires.{wire_room}
use Rattle.script_reader.specs.Arguments.{Given, Var, Offset, Count, Text, Mode}
use Rattle.script_reader.specs.Commands.{IsCount, IsOffset, arguments_of}
use Rattle.script_maker.specs.Generated.{generated_node, generated_object, generated_var, generated_commands}
use Rattle.script_reader.specs.Scripts.{Content}
use Rattle.script_reader.specs.declared.command.Command.{Command}
use Rattle.script_reader.specs.declared.script.CommandRow.{CommandRow}

-- so many nodes
abbrev pub nodes_begun : ℕ → Content
nodes_begun n = record {
  said_wire = None;
  nodes = map generated_node (range_with_len 1 n);
  opening = record { nodes = n; greatest = wire_room 1; objects = [] };
  objects = [];
  plan = [];
  access = false;
  subjects = [];
  phases = 1;
  commands = [];
}

-- all nodes, and so many objects
abbrev pub objects_begun : ℕ → Content
objects_begun n = record {
  said_wire = None;
  nodes = map generated_node (range_with_len 1 8);
  opening = record { nodes = 8; greatest = wire_room 1; objects = map generated_object (range_with_len 0 n) };
  objects = map generated_var (range_with_len 0 n);
  plan = [];
  access = false;
  subjects = [];
  phases = 1;
  commands = [];
}

-- all nodes and objects, and the commands of so many phases behind the first
abbrev pub phases_begun : ℕ → ℕ → Content
phases_begun seed n = record (objects_begun 32) { phases = n + 1; commands = generated_commands seed (n + 1) }

-- these commands more
abbrev pub with_rows : Content → List CommandRow → Content
with_rows s rows = record s { commands = s.commands ++ rows }

-- all nodes and objects are there
pub record HasBegun (s : Content) : Type 0 where
  pub nodes : length s.nodes ≡ 8
  pub objects : s.objects ≡ map generated_var (range_with_len 0 32)

-- an argument of a command on the object of this variable
abbrev pub IsWorkArgument : List ℕ → Given → Type 0
IsWorkArgument var (Var name) = name ≡ var
IsWorkArgument var (Offset bytes) = IsOffset bytes
IsWorkArgument var (Count bytes) = IsCount bytes
IsWorkArgument var (Text text) = IsCount (length text)
IsWorkArgument var (Mode mode) = Unit {0}
IsWorkArgument var _ = ⊥

abbrev pub IsWork : List ℕ → Command → Type 0
IsWork var command = AllByRecursion (IsWorkArgument var) (arguments_of command)
