-- Which variables a process knows, and of which a command may speak.
use Rattle.std.specs.Prelude.{ℕ, ◌≡◌, Bool, false, ◌&&◌, ◌||◌, if◌then◌else◌, Option, Some, None, List, [], ◌∷◌, ◌++◌, IsTrue}
use Rattle.std.specs.Prelude.{bytes_eq}
use Rattle.std.specs.List.{AllByRecursion, list_any}
use Rattle.uid_names.specs.Names.{ProcName, ObjectName, same_proc}
use Rattle.script_reader.specs.Arguments.{Given, Var, NewVar}
use Rattle.script_reader.specs.Commands.{arguments_of}
use Rattle.script_reader.specs.declared.command.Command.{Command}
use Rattle.script_reader.specs.declared.command.Command.TheVariants.{New, Bind}
use Rattle.script_reader.specs.declared.script.VarRow.{VarRow}
use Rattle.script_reader.specs.declared.script.CommandRow.{CommandRow}

-- a declared object has this variable
abbrev pub is_declared : List VarRow → List ℕ → Bool
is_declared objects var = list_any (λ row. bytes_eq row.var var) objects

-- the object of the first row that declares this variable
abbrev pub declared_object : List VarRow → List ℕ → Option ObjectName
declared_object [] var = None
declared_object (row ∷ rows) var = if bytes_eq row.var var then Some row.uid else declared_object rows var

-- the command is to give this variable an object, which it makes or finds by a path
abbrev pub makes : List ℕ → Command → Bool
makes var (New name room home) = bytes_eq name var
makes var (Bind name path) = bytes_eq name var
makes var _ = false

-- a `new` or a `bind` of this process names the variable
abbrev pub is_named : List CommandRow → ProcName → List ℕ → Bool
is_named commands proc var = list_any (λ row. same_proc row.proc proc && makes var row.command) commands

-- the process knows the variable: it is that of a declared object, or one that the process named by a `new` or a `bind`
abbrev pub knows : List VarRow → List CommandRow → ProcName → List ℕ → Bool
knows objects before proc var = is_declared objects var || is_named before proc var

-- behind these commands a process may speak of this argument's variable: a new one is none of a declared object, and
-- any other is one that its process knows
abbrev pub MaySpeakOf : List VarRow → List CommandRow → ProcName → Given → Type 0
MaySpeakOf objects before proc (Var name) = IsTrue (knows objects before proc name)
MaySpeakOf objects before proc (NewVar name) = is_declared objects name ≡ false
MaySpeakOf objects before proc _ = Unit {0}

abbrev pub IsSpoken : List VarRow → List CommandRow → ProcName → Command → Type 0
IsSpoken objects before proc command = AllByRecursion (MaySpeakOf objects before proc) (arguments_of command)

-- each command speaks of what its process knows behind the commands before it
abbrev pub AreSpoken : List VarRow → List CommandRow → List CommandRow → Type 0
AreSpoken objects before [] = Unit {0}
AreSpoken objects before (row ∷ rest) = IsSpoken objects before row.proc row.command × AreSpoken objects (before ++ row ∷ []) rest
