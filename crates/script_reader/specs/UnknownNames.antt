-- `unknown`: a node that was not declared, or a variable that the command's process doesn't know.
use Rattle.std.specs.Prelude.{Bool, true, false, not, ◌&&◌, Some, unwrap_or, List}
use Rattle.std.specs.List.{list_all}
use Rattle.uid_names.specs.Names.{ProcName}
use Rattle.script_reader.specs.Scripts.{Content}
use Rattle.script_reader.specs.Variables.{knows}
use Rattle.script_reader.specs.Words.{ProcessWord}
use Rattle.script_reader.specs.Arguments.{Said, Var, Home, HomeNode}
use Rattle.script_reader.specs.Sayings.{Saying, Wire, Node, Object, Fault, Phase, Access, Subject, Does}
use Rattle.script_reader.specs.declared.script.NodeRow.{NodeRow}
use Rattle.script_reader.specs.NodeNames.{is_node_name, node_number}

-- the process that a line names
abbrev pub proc_of : List NodeRow → ProcessWord → ProcName
proc_of nodes process = record { node = node_number nodes process.node; number = unwrap_or process.number 0 }

-- an argument's node was declared, and its variable is one that the process knows; a new one need not be
abbrev pub is_known : Content → ProcName → Said → Bool
is_known s proc (Var name) = knows s.objects s.commands proc name
is_known s proc (Home (Some name)) = is_node_name s.nodes name
is_known s proc (HomeNode name) = is_node_name s.nodes name
is_known s proc _ = true

-- a line speaks of what is not known
abbrev pub is_unknown : Content → Saying → Bool
is_unknown s (Wire version) = false
is_unknown s (Node name frames) = false
is_unknown s (Object var room home) = not (is_node_name s.nodes home)
is_unknown s (Fault from to index fate) = not (is_node_name s.nodes from && is_node_name s.nodes to)
is_unknown s Phase = false
is_unknown s Access = false
is_unknown s (Subject process person project) = not (is_node_name s.nodes process.node)
is_unknown s (Does process verb arguments) = not (is_node_name s.nodes process.node && list_all (is_known s (proc_of s.nodes process)) arguments)
