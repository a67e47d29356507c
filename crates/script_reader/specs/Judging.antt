-- The cause for which a line is refused: the first that it meets, in the order in which they are tested. A
-- later test looks at nothing that an earlier one has refused.
use Rattle.std.specs.Prelude.{ℕ, nat_lt, Bool, ◌||◌, if◌then◌else◌, Option, Some, None, Result, Ok, Err, List, [], ◌∷◌, length}
use Rattle.dom_text.specs.Tokens.{tokens_of}
use Rattle.dom_text.specs.declared.token.Token.{Token}
use Rattle.dom_text.specs.declared.token.Token.TheVariants.{Word as WordToken, Text as TextToken}
use Rattle.dom_text.specs.declared.line.TextFault.{TextFault}
use Rattle.dom_text.specs.declared.line.TextFault.TheVariants.{Quote as QuoteFault}
use Rattle.script_reader.specs.Scripts.{Content, wire_of}
use Rattle.script_reader.specs.Words.{ProcessWord, line_word_of, process_word, verb_of}
use Rattle.script_reader.specs.Sayings.{Saying}
use Rattle.script_reader.specs.Forms.{wire_form, node_form, object_form, fault_form, phase_form, access_form, subject_form, command_form}
use Rattle.script_reader.specs.declared.cause.Cause.{Cause}
use Rattle.script_reader.specs.declared.cause.Cause.TheVariants.{TooLong, Byte, Quote, Word, Place, Form, Number, Name, Unknown, Repeat, Limit}
use Rattle.script_reader.specs.declared.words.LineWord.{LineWord}
use Rattle.script_reader.specs.declared.words.LineWord.TheVariants.{Wire as WireWord, Node as NodeWord, Object as ObjectWord, Fault as FaultWord, Phase as PhaseWord, Access as AccessWord, Subject as SubjectWord}
use Rattle.script_reader.specs.declared.words.Verb.{Verb}
use Rattle.script_reader.specs.Numbers.{is_no_number}
use Rattle.script_reader.specs.NamesAsked.{is_no_name}
use Rattle.script_reader.specs.UnknownNames.{is_unknown}
use Rattle.script_reader.specs.Repeats.{is_repeated}
use Rattle.script_reader.specs.Limits.{is_past_limit}
use Rattle.script_reader.specs.After.{after}

-- the causes of a line that has its form, in the order in which they are tested
abbrev pub judged_saying : Content → Saying → Result Content Cause
judged_saying s said =
    if is_no_number (wire_of s) said then Err Number
    else if is_no_name said then Err Name
    else if is_unknown s said then Err Unknown
    else if is_repeated s said then Err Repeat
    else if is_past_limit s said then Err Limit
    else Ok (after s said)

-- `form`
abbrev pub judged_form : Content → Option Saying → Result Content Cause
judged_form s None = Err Form
judged_form s (Some said) = judged_saying s said

-- `place`: a phase or a command stands before
abbrev pub has_begun : Content → Bool
has_begun s = nat_lt 1 s.phases || nat_lt 0 (length s.commands)

abbrev pub judged_place : Content → Option Saying → Result Content Cause
judged_place s said = if has_begun s then Err Place else judged_form s said

-- that of a version, behind which no object stands either
abbrev pub judged_early : Content → Option Saying → Result Content Cause
judged_early s said = if nat_lt 0 (length s.opening.objects) then Err Place else judged_place s said

-- `word`: the first token, and the second of a command
abbrev pub judged_verb : Content → ProcessWord → Option Verb → List Token → Result Content Cause
judged_verb s process None tokens = Err Word
judged_verb s process (Some verb) tokens = judged_form s (command_form process verb tokens)

abbrev pub judged_process : Content → Option ProcessWord → List Token → Result Content Cause
judged_process s (Some process) (WordToken verb ∷ tokens) = judged_verb s process (verb_of verb) tokens
judged_process s _ _ = Err Word

abbrev pub judged_first : Content → Option LineWord → List ℕ → List Token → Result Content Cause
judged_first s (Some WireWord) word tokens = judged_early s (wire_form tokens)
judged_first s (Some NodeWord) word tokens = judged_place s (node_form tokens)
judged_first s (Some ObjectWord) word tokens = judged_place s (object_form tokens)
judged_first s (Some FaultWord) word tokens = judged_place s (fault_form tokens)
judged_first s (Some PhaseWord) word tokens = judged_form s (phase_form tokens)
judged_first s (Some AccessWord) word tokens = judged_place s (access_form tokens)
judged_first s (Some SubjectWord) word tokens = judged_place s (subject_form tokens)
judged_first s None word tokens = judged_process s (process_word word) tokens

-- a line without tokens is skipped
abbrev pub judged_tokens : Content → List Token → Result Content Cause
judged_tokens s [] = Ok s
judged_tokens s (TextToken text ∷ tokens) = Err Word
judged_tokens s (WordToken word ∷ tokens) = judged_first s (line_word_of word) word tokens

-- `byte` and `quote`; reading tokens has no other fault
abbrev pub judged_text : Content → Result (List Token) TextFault → Result Content Cause
judged_text s (Ok tokens) = judged_tokens s tokens
judged_text s (Err QuoteFault) = Err Quote
judged_text s (Err _) = Err Byte

-- a line without its end: the first cause that it meets, or what is said behind it
abbrev pub judged : Content → List ℕ → Result Content Cause
judged s line = if nat_lt 5000 (length line) then Err TooLong else judged_text s (tokens_of line)
