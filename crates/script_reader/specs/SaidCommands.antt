-- Which command its arguments say.
use Rattle.std.specs.Prelude.{ℕ, Option, None, unwrap_or, List, [], slice_index_or}
use Rattle.uid_names.specs.declared.mode.Mode.{Mode as LockMode}
use Rattle.uid_names.specs.declared.mode.Mode.TheVariants.{Read}
use Rattle.script_reader.specs.Arguments.{Said, Var, NewVar, Room, Offset, Count, Address, Text, Message, Mode, Home, HomeNode, OptionalRoom, Path, OptionalPath, home_number, pages_said}
use Rattle.script_reader.specs.NodeNames.{node_number}
use Rattle.script_reader.specs.declared.command.Command.{Command}
use Rattle.script_reader.specs.declared.command.Command.TheVariants.{New, Lock, Unlock, Delete, Load, Store, Length, Map, Unmap, Loadat, Storeat, Bind, Crf, Crd, Crl, Dlf, Catf, Lnf, Apf, Cpf, Crm, Putm, Takem, Ld, Wd, Llkob}
use Rattle.script_reader.specs.declared.script.NodeRow.{NodeRow}
use Rattle.script_reader.specs.declared.words.Verb.{Verb}
use Rattle.script_reader.specs.declared.words.Verb.TheVariants as verb

-- what an argument has; the shape of a command tells which of these is asked of which argument
abbrev pub bytes_of : Said → List ℕ
bytes_of (Var name) = name
bytes_of (NewVar name) = name
bytes_of (Text text) = text
bytes_of (Message text) = text
bytes_of (Path path) = path
bytes_of _ = []

abbrev pub number_of : Said → ℕ
number_of (Room found) = unwrap_or found 0
number_of (Offset found) = unwrap_or found 0
number_of (Count found) = unwrap_or found 0
number_of (Address found) = unwrap_or found 0
number_of _ = 0

abbrev pub mode_of : Said → LockMode
mode_of (Mode mode) = mode
mode_of _ = Read

abbrev pub home_of : List NodeRow → Said → Option ℕ
home_of nodes (Home name) = home_number nodes name
home_of nodes _ = None

abbrev pub node_of : List NodeRow → Said → ℕ
node_of nodes (HomeNode name) = node_number nodes name
node_of nodes _ = 1

abbrev pub pages_of : Said → Option ℕ
pages_of (OptionalRoom found) = pages_said found
pages_of _ = None

abbrev pub path_of : Said → Option (List ℕ)
path_of (OptionalPath path) = path
path_of _ = None

-- the command of a verb and of its first, second and third argument
abbrev pub command_with : List NodeRow → Verb → Said → Said → Said → Command
command_with nodes verb.New var room home = New (bytes_of var) (number_of room) (home_of nodes home)
command_with nodes verb.Lock var mode _ = Lock (bytes_of var) (mode_of mode)
command_with nodes verb.Unlock var _ _ = Unlock (bytes_of var)
command_with nodes verb.Delete var _ _ = Delete (bytes_of var)
command_with nodes verb.Load var offset count = Load (bytes_of var) (number_of offset) (number_of count)
command_with nodes verb.Store var offset text = Store (bytes_of var) (number_of offset) (bytes_of text)
command_with nodes verb.Length var _ _ = Length (bytes_of var)
command_with nodes verb.Map var _ _ = Map (bytes_of var)
command_with nodes verb.Unmap var _ _ = Unmap (bytes_of var)
command_with nodes verb.Loadat address count _ = Loadat (number_of address) (number_of count)
command_with nodes verb.Storeat address text _ = Storeat (number_of address) (bytes_of text)
command_with nodes verb.Bind var path _ = Bind (bytes_of var) (bytes_of path)
command_with nodes verb.Crf path room _ = Crf (bytes_of path) (pages_of room)
command_with nodes verb.Crd path _ _ = Crd (bytes_of path)
command_with nodes verb.Crl path target _ = Crl (bytes_of path) (bytes_of target)
command_with nodes verb.Dlf path _ _ = Dlf (bytes_of path)
command_with nodes verb.Catf path _ _ = Catf (bytes_of path)
command_with nodes verb.Lnf path _ _ = Lnf (bytes_of path)
command_with nodes verb.Apf path text _ = Apf (bytes_of path) (bytes_of text)
command_with nodes verb.Cpf path target _ = Cpf (bytes_of path) (bytes_of target)
command_with nodes verb.Crm path _ _ = Crm (bytes_of path)
command_with nodes verb.Putm path text _ = Putm (bytes_of path) (bytes_of text)
command_with nodes verb.Takem path _ _ = Takem (bytes_of path)
command_with nodes verb.Ld path _ _ = Ld (bytes_of path)
command_with nodes verb.Wd path _ _ = Wd (path_of path)
command_with nodes verb.Llkob node _ _ = Llkob (node_of nodes node)

-- the argument at a place; behind the last one nothing is said
abbrev pub argument_at : List Said → ℕ → Said
argument_at arguments n = slice_index_or arguments n (Home None)

-- the command of these arguments among these nodes
abbrev pub command_said : List NodeRow → Verb → List Said → Command
command_said nodes verb arguments = command_with nodes verb (argument_at arguments 0) (argument_at arguments 1) (argument_at arguments 2)
