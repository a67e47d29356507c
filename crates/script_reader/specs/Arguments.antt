-- Arguments of commands: one row for each kind.
use Rattle.std.specs.Prelude.{ℕ, if◌then◌else◌, Option, Some, None, unwrap_or, List}
use Rattle.uid_names.specs.declared.mode.Mode.{Mode as LockMode}
use Rattle.script_reader.specs.declared.script.NodeRow.{NodeRow}
use Rattle.script_reader.specs.NodeNames.{is_node_name, node_number}

-- an argument of a command, with the type of its numbers and that of its node
pub data Argument (Number Node : Type 0) : Type 0 where
  Var : (name : List ℕ) → Argument Number Node
  NewVar : (name : List ℕ) → Argument Number Node
  Room : (pages : Number) → Argument Number Node
  Offset : (bytes : Number) → Argument Number Node
  Count : (bytes : Number) → Argument Number Node
  Address : (address : Number) → Argument Number Node
  Text : (text : List ℕ) → Argument Number Node
  Message : (text : List ℕ) → Argument Number Node
  Mode : (mode : LockMode) → Argument Number Node
  Home : (node : Option Node) → Argument Number Node
  HomeNode : (node : Node) → Argument Number Node
  OptionalRoom : (pages : Option Number) → Argument Number Node
  Path : (path : List ℕ) → Argument Number Node
  OptionalPath : (path : Option (List ℕ)) → Argument Number Node

-- as a line says it: the number where its word spells one of the kind's range, and the node's name
abbrev pub Said : Type 0
Said = Argument (Option ℕ) (List ℕ)

-- as a command has it: the number, and the node's number
abbrev pub Given : Type 0
Given = Argument ℕ ℕ

-- the number of a home that is named and was declared
abbrev pub home_number : List NodeRow → Option (List ℕ) → Option ℕ
home_number nodes None = None
home_number nodes (Some name) = if is_node_name nodes name then Some (node_number nodes name) else None

-- the pages that are said, where a room is
abbrev pub pages_said : Option (Option ℕ) → Option ℕ
pages_said None = None
pages_said (Some found) = Some (unwrap_or found 0)

-- what a good argument gives a command
abbrev pub given : List NodeRow → Said → Given
given nodes (Var name) = Var name
given nodes (NewVar name) = NewVar name
given nodes (Room found) = Room (unwrap_or found 0)
given nodes (Offset found) = Offset (unwrap_or found 0)
given nodes (Count found) = Count (unwrap_or found 0)
given nodes (Address found) = Address (unwrap_or found 0)
given nodes (Text text) = Text text
given nodes (Message text) = Message text
given nodes (Mode mode) = Mode mode
given nodes (Home name) = Home (home_number nodes name)
given nodes (HomeNode name) = HomeNode (node_number nodes name)
given nodes (OptionalRoom found) = OptionalRoom (pages_said found)
given nodes (Path path) = Path path
given nodes (OptionalPath path) = OptionalPath path
