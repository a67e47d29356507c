-- How nodes and processes are written, by the names of the nodes.
use Rattle.std.specs.Prelude.{ℕ, List, [], ◌++◌, codes, decimal, unwrap_or}
use Rattle.uid_names.specs.Names.{ProcName}
use Rattle.dom_history.specs.NodeTexts.{name_of}

-- the name of a node; nothing where it has none
abbrev pub node_text : List (List ℕ) → ℕ → List ℕ
node_text names node = unwrap_or (name_of names node) []

-- a process by the name of its node
abbrev pub process_text : List (List ℕ) → ProcName → List ℕ
process_text names p = node_text names p.node ++ codes "." ++ decimal p.number
