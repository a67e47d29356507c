-- Nodes by their names.
use Rattle.std.specs.Prelude.{ℕ, ◌+◌, Bool, is_some, Option, unwrap_or, List, position}
use Rattle.std.specs.Prelude.{bytes_eq}
use Rattle.script_reader.specs.declared.script.NodeRow.{NodeRow}

-- the place of a node's name among the nodes, counted from 0
abbrev pub place_of : List NodeRow → List ℕ → Option ℕ
place_of nodes name = position (λ row. bytes_eq row.name name) nodes

-- a node of this name was declared
abbrev pub is_node_name : List NodeRow → List ℕ → Bool
is_node_name nodes name = is_some (place_of nodes name)

-- the number of a declared node; nodes are numbered from 1 in the order of their lines
abbrev pub node_number : List NodeRow → List ℕ → ℕ
node_number nodes name = unwrap_or (place_of nodes name) 0 + 1
