-- The words of a line, without where they lie in memory.
use Rattle.std.specs.Prelude.{ℕ, Option, Some, None, List, ◌∷◌, [], map}
use Rattle.std.specs.Borrow.{Bor}
use Rattle.dom_text.specs.Lent.{owned_token}
use Rattle.dom_text.specs.declared.token.Token.{Token}
use Rattle.dom_text.specs.declared.token.TokenRef.{TokenRef}
use Rattle.dom_text.specs.declared.token.Token.TheVariants.{Word, Text as TextToken}
use Rattle.script_reader.specs.Arguments.{Said, Var, NewVar, Room, Offset, Count, Address, Text, Message, Mode, Home, HomeNode, OptionalRoom, Path, OptionalPath}
use Rattle.script_reader.specs.Sayings.{Saying, Wire, Node, Object, Fault, Phase, Access, Subject, SaidFate, Lose, Twice, Late}
use Rattle.script_reader.specs.declared.line.LineFate.{LineFate}
use Rattle.script_reader.specs.declared.line.LineFate.TheVariants.{Lose as LoseOfLine, Twice as TwiceOfLine, Late as LateOfLine}
use Rattle.script_reader.specs.declared.arguments.Argument.{Argument as ArgumentOfLine}
use Rattle.script_reader.specs.declared.arguments.Argument.TheVariants as words
use Rattle.script_reader.specs.declared.line.Line.{Line}
use Rattle.script_reader.specs.declared.line.Line.TheVariants.{Wire as WireLine, Node as NodeLine, Object as ObjectLine, Fault as FaultLine, Phase as PhaseLine, Access as AccessLine, Subject as SubjectLine}

abbrev pub seen_option : Option (Bor (List ℕ)) → Option (List ℕ)
seen_option None = None
seen_option (Some word) = Some word.now

abbrev pub seen_fate : LineFate → SaidFate
seen_fate LoseOfLine = Lose
seen_fate (TwiceOfLine late) = Twice late
seen_fate (LateOfLine late) = Late late

abbrev pub seen_argument : ArgumentOfLine → Said
seen_argument (words.Var name) = Var name.now
seen_argument (words.NewVar name) = NewVar name.now
seen_argument (words.Room found) = Room found
seen_argument (words.Offset found) = Offset found
seen_argument (words.Count found) = Count found
seen_argument (words.Address found) = Address found
seen_argument (words.Text text) = Text text.now
seen_argument (words.Message text) = Message text.now
seen_argument (words.Mode mode) = Mode mode
seen_argument (words.Home name) = Home (seen_option name)
seen_argument (words.HomeNode name) = HomeNode name.now
seen_argument (words.OptionalRoom found) = OptionalRoom found
seen_argument (words.Path path) = Path path.now
seen_argument (words.OptionalPath path) = OptionalPath (seen_option path)

-- the token at a place, where there is one
abbrev pub seen_token : Option (Bor TokenRef) → Option Token
seen_token None = None
seen_token (Some token) = Some (owned_token token.now)

abbrev pub seen_found : Option ArgumentOfLine → Option Said
seen_found None = None
seen_found (Some argument) = Some (seen_argument argument)

abbrev pub seen_arguments : List ArgumentOfLine → List Said
seen_arguments arguments = map seen_argument arguments

abbrev pub seen : Line → Saying
seen (WireLine version) = Wire version
seen (NodeLine name frames) = Node name.now frames
seen (ObjectLine var room home) = Object var.now room home.now
seen (FaultLine from to index fate) = Fault from.now to.now index (seen_fate fate)
seen PhaseLine = Phase
seen AccessLine = Access
seen (SubjectLine node number person project) = Subject (record { node = node.now; number = number }) person.now project.now

-- no word stands first
abbrev pub BeginsWithNoWord : List Token → Type 0
BeginsWithNoWord [] = Unit {0}
BeginsWithNoWord (Word word ∷ rest) = ⊥
BeginsWithNoWord (TextToken text ∷ rest) = Unit {0}

-- the tokens are not one word
abbrev pub IsNotOneWord : List Token → Type 0
IsNotOneWord (Word word ∷ []) = ⊥
IsNotOneWord _ = Unit {0}

-- the words of a line that has its form
abbrev pub seen_line : Option Line → Option Saying
seen_line None = None
seen_line (Some line) = Some (seen line)
