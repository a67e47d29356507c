-- The forms of lines: how many tokens they have, and which are words, texts or fixed words.
use Rattle.std.specs.Prelude.{ℕ, if◌then◌else◌, Option, Some, None, List, [], ◌∷◌, codes}
use Rattle.std.specs.Prelude.{bytes_eq}
use Rattle.dom_text.specs.Cuts.{cut_at_last}
use Rattle.uid_names.specs.declared.mode.Mode.{Mode as LockMode}
use Rattle.dom_text.specs.declared.token.Token.{Token}
use Rattle.dom_text.specs.declared.token.Token.TheVariants.{Word, Text as TextToken}
use Rattle.script_reader.specs.Words.{ProcessWord, mode_of_word}
use Rattle.script_reader.specs.Arguments.{Said, Var, NewVar, Room, Offset, Count, Address, Text, Message, Mode, Home, HomeNode, OptionalRoom, Path, OptionalPath}
use Rattle.script_reader.specs.Sayings.{Saying, Wire, Node, Object, Fault, Phase, Access, Subject, Does, SaidFate, Lose, Twice, Late}
use Rattle.script_reader.specs.SpelledNumbers.{wire_spelled, frames_spelled, index_spelled, late_spelled, process_spelled, room_spelled, offset_spelled, count_spelled, address_spelled}
use Rattle.script_reader.specs.Shapes.{shape_of}
use Rattle.script_reader.specs.declared.words.Verb.{Verb}
use Rattle.script_reader.specs.declared.words.Kind.{Kind}
use Rattle.script_reader.specs.declared.words.Kind.TheVariants as kind

-- behind `wire`
abbrev pub wire_form : List Token → Option Saying
wire_form (Word number ∷ []) = Some (Wire (wire_spelled number))
wire_form _ = None

-- behind `node`
abbrev pub node_form : List Token → Option Saying
node_form (Word name ∷ []) = Some (Node name (frames_spelled None))
node_form (Word name ∷ Word fixed ∷ Word count ∷ []) = if bytes_eq fixed (codes "frames") then Some (Node name (frames_spelled (Some count))) else None
node_form _ = None

-- behind `object`
abbrev pub object_form : List Token → Option Saying
object_form (Word var ∷ Word room ∷ Word home ∷ []) = Some (Object var (room_spelled room) home)
object_form _ = None

-- a fate with a number behind it
abbrev pub counted_fate : List ℕ → Option ℕ → Option SaidFate
counted_fate fixed late =
    if bytes_eq fixed (codes "twice") then Some (Twice late)
    else if bytes_eq fixed (codes "late") then Some (Late late)
    else None

abbrev pub fate_form : List Token → Option SaidFate
fate_form (Word fixed ∷ []) = if bytes_eq fixed (codes "lose") then Some Lose else None
fate_form (Word fixed ∷ Word count ∷ []) = counted_fate fixed (late_spelled count)
fate_form _ = None

abbrev pub with_link : List ℕ → List ℕ → Option ℕ → Option SaidFate → Option Saying
with_link from to index None = None
with_link from to index (Some fate) = if bytes_eq from to then None else Some (Fault from to index fate)

-- behind `fault`
abbrev pub fault_form : List Token → Option Saying
fault_form (Word from ∷ Word to ∷ Word index ∷ rest) = with_link from to (index_spelled index) (fate_form rest)
fault_form _ = None

-- behind `phase`
abbrev pub phase_form : List Token → Option Saying
phase_form [] = Some Phase
phase_form _ = None

-- behind `access`
abbrev pub access_form : List Token → Option Saying
access_form [] = Some Access
access_form _ = None

-- behind `subject`: a process and its subject, each cut at its last dot
abbrev pub subject_words : Option (List ℕ × List ℕ) → Option (List ℕ × List ℕ) → Option Saying
subject_words None subject = None
subject_words (Some process) None = None
subject_words (Some process) (Some subject) = Some (Subject (record { node = process.0; number = process_spelled process.1 }) subject.0 subject.1)

abbrev pub subject_form : List Token → Option Saying
subject_form (Word process ∷ Word subject ∷ []) = subject_words (cut_at_last 46 process) (cut_at_last 46 subject)
subject_form _ = None

-- a mode, where the word is one
abbrev pub mode_argument : Option LockMode → Option Said
mode_argument None = None
mode_argument (Some mode) = Some (Mode mode)

-- a word as an argument of a kind
abbrev pub word_argument : Kind → List ℕ → Option Said
word_argument kind.Var word = Some (Var word)
word_argument kind.NewVar word = Some (NewVar word)
word_argument kind.Room word = Some (Room (room_spelled word))
word_argument kind.Offset word = Some (Offset (offset_spelled word))
word_argument kind.Count word = Some (Count (count_spelled word))
word_argument kind.Address word = Some (Address (address_spelled word))
word_argument kind.Text word = None
word_argument kind.Message word = None
word_argument kind.Mode word = mode_argument (mode_of_word word)
word_argument kind.Home word = Some (Home (Some word))
word_argument kind.HomeNode word = Some (HomeNode word)
word_argument kind.OptionalRoom word = Some (OptionalRoom (Some (room_spelled word)))
word_argument kind.Path word = Some (Path word)
word_argument kind.OptionalPath word = Some (OptionalPath (Some word))

-- a quoted text as one
abbrev pub text_argument : Kind → List ℕ → Option Said
text_argument kind.Text text = Some (Text text)
text_argument kind.Message text = Some (Message text)
text_argument _ text = None

-- what an argument that is left out says; only a home, a room and a path may be, where the kind says so
abbrev pub absent : Kind → Option Said
absent kind.Home = Some (Home None)
absent kind.OptionalRoom = Some (OptionalRoom None)
absent kind.OptionalPath = Some (OptionalPath None)
absent _ = None

-- what stands at an argument's place, or nothing, as an argument of a kind
abbrev pub argument_form : Kind → Option Token → Option Said
argument_form kind None = absent kind
argument_form kind (Some (Word word)) = word_argument kind word
argument_form kind (Some (TextToken text)) = text_argument kind text

abbrev pub in_front : Option Said → Option (List Said) → Option (List Said)
in_front None rest = None
in_front (Some first) None = None
in_front (Some first) (Some rest) = Some (first ∷ rest)

-- tokens as arguments of these kinds, with none left over
abbrev pub arguments_form : List Kind → List Token → Option (List Said)
arguments_form [] [] = Some []
arguments_form [] (token ∷ rest) = None
arguments_form (kind ∷ kinds) [] = in_front (argument_form kind None) (arguments_form kinds [])
arguments_form (kind ∷ kinds) (token ∷ rest) = in_front (argument_form kind (Some token)) (arguments_form kinds rest)

-- behind a command's word
abbrev pub does_form : ProcessWord → Verb → Option (List Said) → Option Saying
does_form process verb None = None
does_form process verb (Some arguments) = Some (Does process verb arguments)

abbrev pub command_form : ProcessWord → Verb → List Token → Option Saying
command_form process verb tokens = does_form process verb (arguments_form (shape_of verb) tokens)
