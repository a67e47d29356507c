-- The arguments of a command, and their ranges.
use Rattle.std.specs.Prelude.{ℕ, ◌≤◌, ◌<◌, length, Option, IfSome, IsSome, List, [], ◌∷◌}
use Rattle.std.specs.List.{AllByRecursion}
use Rattle.uid_names.specs.NameTexts.{IsNameText}
use Rattle.uid_names.specs.Rooms.{IsRoom}
use Rattle.uid_names.specs.declared.limits.TheConstants.{MAX_LENGTH, PAGE_BYTES}
use Rattle.dom_history.specs.Ranges.{IsProcName}
use Rattle.dir_records.specs.Paths.{route_of}
use Rattle.script_reader.specs.Arguments.{Given, Var, NewVar, Room, Offset, Count, Address, Text, Message, Mode, Home, HomeNode, OptionalRoom, Path, OptionalPath}
use Rattle.script_reader.specs.declared.command.Command.{Command}
use Rattle.script_reader.specs.declared.command.Command.TheVariants.{New, Lock, Unlock, Delete, Load, Store, Length, Map, Unmap, Loadat, Storeat, Bind, Crf, Crd, Crl, Dlf, Catf, Lnf, Apf, Cpf, Crm, Putm, Takem, Ld, Wd, Llkob}
use Rattle.script_reader.specs.declared.script.CommandRow.{CommandRow}

-- an offset in an object, a count of bytes, and an address
abbrev pub IsOffset : ℕ → Type 0
IsOffset offset = offset < MAX_LENGTH

abbrev pub IsCount : ℕ → Type 0
IsCount count = (1 ≤ count) × (count ≤ PAGE_BYTES)

abbrev pub IsAddress : ℕ → Type 0
IsAddress address = address ≤ 0xff_ffff

-- how many bytes a text has that a mailbox takes
abbrev pub IsMessage : ℕ → Type 0
IsMessage count = (1 ≤ count) × (count ≤ 120)

-- a home that a command names is a node
abbrev pub IsHome : ℕ → Option ℕ → Type 0
IsHome nodes home = IfSome home (λ node. (1 ≤ node) × (node ≤ nodes))

-- a text that leads somewhere
abbrev pub IsPath : List ℕ → Type 0
IsPath text = IsSome (route_of text)

-- the arguments of a command, in the order of its shape
abbrev pub arguments_of : Command → List Given
arguments_of (New var room home) = NewVar var ∷ Room room ∷ Home home ∷ []
arguments_of (Lock var mode) = Var var ∷ Mode mode ∷ []
arguments_of (Unlock var) = Var var ∷ []
arguments_of (Delete var) = Var var ∷ []
arguments_of (Load var offset count) = Var var ∷ Offset offset ∷ Count count ∷ []
arguments_of (Store var offset text) = Var var ∷ Offset offset ∷ Text text ∷ []
arguments_of (Length var) = Var var ∷ []
arguments_of (Map var) = Var var ∷ []
arguments_of (Unmap var) = Var var ∷ []
arguments_of (Loadat address count) = Address address ∷ Count count ∷ []
arguments_of (Storeat address text) = Address address ∷ Text text ∷ []
arguments_of (Bind var path) = NewVar var ∷ Path path ∷ []
arguments_of (Crf path room) = Path path ∷ OptionalRoom room ∷ []
arguments_of (Crd path) = Path path ∷ []
arguments_of (Crl path target) = Path path ∷ Path target ∷ []
arguments_of (Dlf path) = Path path ∷ []
arguments_of (Catf path) = Path path ∷ []
arguments_of (Lnf path) = Path path ∷ []
arguments_of (Apf path text) = Path path ∷ Text text ∷ []
arguments_of (Cpf path target) = Path path ∷ Path target ∷ []
arguments_of (Crm path) = Path path ∷ []
arguments_of (Putm path text) = Path path ∷ Message text ∷ []
arguments_of (Takem path) = Path path ∷ []
arguments_of (Ld path) = Path path ∷ []
arguments_of (Wd path) = OptionalPath path ∷ []
arguments_of (Llkob node) = HomeNode node ∷ []

-- an argument is in its range
abbrev pub IsArgument : ℕ → Given → Type 0
IsArgument nodes (Var name) = IsNameText name
IsArgument nodes (NewVar name) = IsNameText name
IsArgument nodes (Room pages) = IsRoom pages
IsArgument nodes (Offset bytes) = IsOffset bytes
IsArgument nodes (Count bytes) = IsCount bytes
IsArgument nodes (Address address) = IsAddress address
IsArgument nodes (Text text) = IsCount (length text)
IsArgument nodes (Message text) = IsMessage (length text)
IsArgument nodes (Mode mode) = Unit {0}
IsArgument nodes (Home home) = IsHome nodes home
IsArgument nodes (HomeNode node) = (1 ≤ node) × (node ≤ nodes)
IsArgument nodes (OptionalRoom pages) = IfSome pages IsRoom
IsArgument nodes (Path path) = IsPath path
IsArgument nodes (OptionalPath path) = IfSome path IsPath

-- the arguments of a command are in their ranges
abbrev pub IsCommand : ℕ → Command → Type 0
IsCommand nodes command = AllByRecursion (IsArgument nodes) (arguments_of command)

-- a command is in its ranges, and belongs to a process of a node and to a phase
pub record IsCommandRow (nodes phases : ℕ) (row : CommandRow) : Type 0 where
  pub proc : IsProcName row.proc
  pub node : row.proc.node ≤ nodes
  pub phase_low : 1 ≤ row.phase
  pub phase_high : row.phase ≤ phases
  pub command : IsCommand nodes row.command
