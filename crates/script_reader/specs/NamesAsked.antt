-- `name`: where a line asks for the name of a node or of a variable, or for a path.
use Rattle.std.specs.Prelude.{Bool, true, false, not, ◌&&◌, is_some, Some}
use Rattle.std.specs.List.{list_all}
use Rattle.dir_records.specs.Paths.{route_of}
use Rattle.script_reader.specs.Words.{is_name}
use Rattle.script_reader.specs.Arguments.{Said, Var, NewVar, Home, HomeNode, Path, OptionalPath}
use Rattle.script_reader.specs.Sayings.{Saying, Wire, Node, Object, Fault, Phase, Access, Subject, Does}

-- the name or the path of an argument is one, where it has such
abbrev pub has_name : Said → Bool
has_name (Var name) = is_name name
has_name (NewVar name) = is_name name
has_name (Home (Some name)) = is_name name
has_name (HomeNode name) = is_name name
has_name (Path path) = is_some (route_of path)
has_name (OptionalPath (Some path)) = is_some (route_of path)
has_name _ = true

-- a line has a word that is no name or no path where one is asked
abbrev pub is_no_name : Saying → Bool
is_no_name (Wire version) = false
is_no_name (Node name frames) = not (is_name name)
is_no_name (Object var room home) = not (is_name var && is_name home)
is_no_name (Fault from to index fate) = not (is_name from && is_name to)
is_no_name Phase = false
is_no_name Access = false
is_no_name (Subject process person project) = not (is_name process.node && (is_name person && is_name project))
is_no_name (Does process verb arguments) = not (list_all has_name arguments)
