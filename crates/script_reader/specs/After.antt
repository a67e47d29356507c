-- What a good line says: the content behind it.
use Rattle.std.specs.Prelude.{ℕ, ◌+◌, true, unwrap_or, Some, List, [], ◌∷◌, ◌++◌, length}
use Rattle.uid_names.specs.Names.{ProcName, ObjectName}
use Rattle.uid_names.specs.Openings.{with_object}
use Rattle.uid_names.specs.Wires.{wire_room}
use Rattle.uid_names.specs.declared.mode.ObjKind.TheVariants.{File}
use Rattle.uid_names.specs.declared.opening.Object.{Object as ObjectRecord}
use Rattle.uid_names.specs.Beginnings.{at_home}
use Rattle.dom_history.specs.declared.plan.Fate.{Fate}
use Rattle.dom_history.specs.declared.plan.Fate.TheVariants.{Lose as LoseFate, Twice as TwiceFate, Late as LateFate}
use Rattle.script_reader.specs.Scripts.{Content}
use Rattle.script_reader.specs.Sayings.{Saying, Wire, Node, Object, Fault, Phase, Access, Subject, Does, SaidFate, Lose, Twice, Late}
use Rattle.script_reader.specs.declared.command.Command.{Command}
use Rattle.script_reader.specs.declared.script.NodeRow.{NodeRow}
use Rattle.script_reader.specs.NodeNames.{node_number}
use Rattle.script_reader.specs.UnknownNames.{proc_of}
use Rattle.script_reader.specs.SaidCommands.{command_said}

-- a version, before any object
abbrev pub with_wire : Content → ℕ → Content
with_wire s wire = record s { said_wire = Some wire; opening = record s.opening { greatest = wire_room wire } }

abbrev pub with_nodes : Content → List NodeRow → Content
with_nodes s nodes = record s { nodes = nodes; opening = record s.opening { nodes = length nodes } }

-- one node more, with the next number
abbrev pub with_node : Content → List ℕ → ℕ → Content
with_node s name frames = with_nodes s (s.nodes ++ record { name = name; frames = frames } ∷ [])

-- the next object of a home: counter 1 is its entry directory
abbrev pub next_uid : List ObjectRecord → ℕ → ObjectName
next_uid objects home = record { counter = length (at_home home objects) + 2; home = home }

-- one declared object more, and its variable
abbrev pub with_declared : Content → List ℕ → ObjectRecord → Content
with_declared s var object = record s {
  opening = with_object s.opening object;
  objects = s.objects ++ record { var = var; uid = object.uid } ∷ [];
}

abbrev pub declared_at : Content → ℕ → ℕ → ObjectRecord
declared_at s home room = record { uid = next_uid s.opening.objects home; kind = File; room = room }

-- the fate that a line says
abbrev pub fate_said : SaidFate → Fate
fate_said Lose = LoseFate
fate_said (Twice late) = TwiceFate (unwrap_or late 0)
fate_said (Late late) = LateFate (unwrap_or late 0)

abbrev pub with_fate : Content → ℕ → ℕ → ℕ → Fate → Content
with_fate s from to index fate = record s { plan = s.plan ++ record { from = from; to = to; index = index; fate = fate } ∷ [] }

-- one command more, of the last phase
abbrev pub with_command : Content → ProcName → Command → Content
with_command s proc command = record s { commands = s.commands ++ record { proc = proc; phase = s.phases; command = command } ∷ [] }

-- access lists in force
abbrev pub with_access : Content → Content
with_access s = record s { access = true }

-- the subject of one process more
abbrev pub with_subject : Content → ProcName → List ℕ → List ℕ → Content
with_subject s proc person project = record s { subjects = s.subjects ++ record { proc = proc; person = person; project = project } ∷ [] }

-- what is said once this line is
abbrev pub after : Content → Saying → Content
after s (Wire version) = with_wire s (unwrap_or version 0)
after s (Node name frames) = with_node s name (unwrap_or frames 0)
after s (Object var room home) = with_declared s var (declared_at s (node_number s.nodes home) (unwrap_or room 0))
after s (Fault from to index fate) = with_fate s (node_number s.nodes from) (node_number s.nodes to) (unwrap_or index 0) (fate_said fate)
after s Phase = record s { phases = s.phases + 1 }
after s Access = with_access s
after s (Subject process person project) = with_subject s (proc_of s.nodes process) person project
after s (Does process verb arguments) = with_command s (proc_of s.nodes process) (command_said s.nodes verb arguments)
