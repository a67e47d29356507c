-- The nodes that a line names, each looked up once.
use Rattle.std.specs.Prelude.{ℕ, ◌≡◌, ◌≤◌, is_some, Option, IfSome, List, length}
use Rattle.script_reader.specs.NodeNames.{is_node_name, node_number}
use Rattle.script_reader.specs.Sayings.{Saying, Wire, Node, Object, Fault, Phase, Access, Subject, Does}
use Rattle.script_reader.specs.declared.draft.LineNodes.{LineNodes}
use Rattle.script_reader.specs.declared.script.NodeRow.{NodeRow}

-- the node of a name, where one of these has it
pub record IsNodeOf (nodes : List NodeRow) (name : List ℕ) (found : Option ℕ) : Type 0 where
  pub found_if : is_some found ≡ is_node_name nodes name
  pub value : IfSome found (λ node. node ≡ node_number nodes name)
  pub least : IfSome found (λ node. 1 ≤ node)
  pub within : IfSome found (λ node. node ≤ length nodes)

-- what was found of the nodes that a line names
abbrev pub AreNodesOf : List NodeRow → Saying → LineNodes → Type 0
AreNodesOf nodes (Wire version) found = Unit {0}
AreNodesOf nodes (Node name frames) found = IsNodeOf nodes name found.first
AreNodesOf nodes (Object var room home) found = IsNodeOf nodes home found.first
AreNodesOf nodes (Fault from to index fate) found = IsNodeOf nodes from found.first × IsNodeOf nodes to found.second
AreNodesOf nodes Phase found = Unit {0}
AreNodesOf nodes Access found = Unit {0}
AreNodesOf nodes (Subject process person project) found = IsNodeOf nodes process.node found.first
AreNodesOf nodes (Does process verb arguments) found = IsNodeOf nodes process.node found.first
