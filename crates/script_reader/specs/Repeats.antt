-- `repeat`: what was declared is declared again, a version is said again, lists are put in force again, a process gets a second
-- subject, or a `new` or a `bind` takes the variable of a declared object.
use Rattle.std.specs.Prelude.{Bool, true, false, not, is_some, unwrap_or}
use Rattle.std.specs.List.{list_all}
use Rattle.dom_history.specs.Plans.{is_set}
use Rattle.script_reader.specs.Scripts.{Content}
use Rattle.script_reader.specs.Variables.{is_declared}
use Rattle.script_reader.specs.Arguments.{Said, NewVar}
use Rattle.script_reader.specs.Sayings.{Saying, Wire, Node, Object, Fault, Phase, Access, Subject, Does}
use Rattle.script_reader.specs.NodeNames.{is_node_name, node_number}
use Rattle.script_reader.specs.Subjects.{has_subject}
use Rattle.script_reader.specs.UnknownNames.{proc_of}

-- a new variable is not that of a declared object
abbrev pub is_fresh : Content → Said → Bool
is_fresh s (NewVar name) = not (is_declared s.objects name)
is_fresh s _ = true

-- a line declares what was declared
abbrev pub is_repeated : Content → Saying → Bool
is_repeated s (Wire version) = is_some s.said_wire
is_repeated s (Node name frames) = is_node_name s.nodes name
is_repeated s (Object var room home) = is_declared s.objects var
is_repeated s (Fault from to index fate) = is_set s.plan (node_number s.nodes from) (node_number s.nodes to) (unwrap_or index 0)
is_repeated s Phase = false
is_repeated s Access = s.access
is_repeated s (Subject process person project) = has_subject s.subjects (proc_of s.nodes process)
is_repeated s (Does process verb arguments) = not (list_all (is_fresh s) arguments)
