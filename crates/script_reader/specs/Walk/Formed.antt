-- What is known of a line once its place and its form were tested.
use Rattle.std.specs.Prelude.{ℕ, ◌≡◌, ◌≤◌, false, Some, IfSome, List, [], map}
use Rattle.std.specs.List.{AllByRecursion}
use Rattle.std.specs.Prelude.{bytes_eq}
use Rattle.uid_names.specs.Rooms.{IsRoom}
use Rattle.uid_names.specs.Wires.{IsWire}
use Rattle.uid_names.specs.declared.limits.TheConstants.{NODE_PROCESSES}
use Rattle.script_reader.specs.Arguments.{Said, Var, NewVar, Room, Offset, Count, Address, Text, Message, Mode, Home, HomeNode, OptionalRoom, Path, OptionalPath}
use Rattle.script_reader.specs.Commands.{IsOffset, IsCount, IsAddress}
use Rattle.script_reader.specs.Scripts.{Content}
use Rattle.script_reader.specs.Sayings.{Saying, Wire, Node, Object, Fault, Subject, Does, SaidFate, Lose, Twice, Late}
use Rattle.script_reader.specs.Shapes.{shape_of}
use Rattle.script_reader.specs.declared.words.Kind.{Kind}
use Rattle.script_reader.specs.declared.words.Kind.TheVariants as kind

abbrev pub kind_of : Said → Kind
kind_of (Var name) = kind.Var
kind_of (NewVar name) = kind.NewVar
kind_of (Room found) = kind.Room
kind_of (Offset found) = kind.Offset
kind_of (Count found) = kind.Count
kind_of (Address found) = kind.Address
kind_of (Text text) = kind.Text
kind_of (Message text) = kind.Message
kind_of (Mode mode) = kind.Mode
kind_of (Home name) = kind.Home
kind_of (HomeNode name) = kind.HomeNode
kind_of (OptionalRoom found) = kind.OptionalRoom
kind_of (Path path) = kind.Path
kind_of (OptionalPath path) = kind.OptionalPath

-- a number that was found is in its range
abbrev pub IsFound : Said → Type 0
IsFound (Room found) = IfSome found IsRoom
IsFound (Offset found) = IfSome found IsOffset
IsFound (Count found) = IfSome found IsCount
IsFound (Address found) = IfSome found IsAddress
IsFound (OptionalRoom (Some found)) = IfSome found IsRoom
IsFound _ = Unit {0}

-- arguments of these kinds
pub record AreFormed (kinds : List Kind) (arguments : List Said) : Type 0 where
  pub kinds_are : map kind_of arguments ≡ kinds
  pub found : AllByRecursion IsFound arguments

-- the numbers of the other lines, in their ranges
abbrev pub AreFrames : ℕ → Type 0
AreFrames n = (5 ≤ n) × (n ≤ 256)

abbrev pub IsProcessNumber : ℕ → Type 0
IsProcessNumber n = (1 ≤ n) × (n ≤ NODE_PROCESSES)

abbrev pub IsIndex : ℕ → Type 0
IsIndex n = (1 ≤ n) × (n ≤ 1000000)

abbrev pub IsLate : ℕ → Type 0
IsLate n = (1 ≤ n) × (n ≤ 1000)

abbrev pub IsFateFound : SaidFate → Type 0
IsFateFound Lose = Unit {0}
IsFateFound (Twice late) = IfSome late IsLate
IsFateFound (Late late) = IfSome late IsLate

-- what the test of a line's form leaves: a number that was found is in its range, a link joins two words, and arguments
-- are of the kinds of their verb
abbrev pub HasForm : Saying → Type 0
HasForm (Wire version) = IfSome version IsWire
HasForm (Node name frames) = IfSome frames AreFrames
HasForm (Object var room home) = IfSome room IsRoom
HasForm (Fault from to index fate) = (bytes_eq from to ≡ false) × (IfSome index IsIndex × IsFateFound fate)
HasForm (Subject process person project) = IfSome process.number IsProcessNumber
HasForm (Does process verb arguments) = IfSome process.number IsProcessNumber × AreFormed (shape_of verb) arguments
HasForm _ = Unit {0}

-- and that of its place: objects stand before all commands
abbrev pub IsFormed : Content → Saying → Type 0
IsFormed s (Object var room home) = (s.commands ≡ []) × IfSome room IsRoom
IsFormed s said = HasForm said
