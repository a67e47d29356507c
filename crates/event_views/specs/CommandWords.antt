-- The words of the commands of a process, by the lines of a script's source.
use Rattle.std.specs.Prelude.{ℕ, if◌then◌else◌, Option, Some, None, Result, Ok, Err, List, [], ◌∷◌, bytes_eq}
use Rattle.std.specs.Option.{option_map}
use Rattle.std.specs.List.{filter_map}
use Rattle.dom_text.specs.Spelled.{line_of}
use Rattle.dom_text.specs.Tokens.{tokens_of}
use Rattle.dom_text.specs.declared.token.Token.{Token}
use Rattle.dom_text.specs.declared.token.Token.TheVariants.{Word, Text}
use Rattle.dom_text.specs.declared.line.TextFault.{TextFault}
use Rattle.script_reader.specs.Grammar.{raw_lines, without_cr}

-- the tokens behind the first one, if that is this word
abbrev pub behind_word : List ℕ → List Token → Option (List Token)
behind_word word [] = None
behind_word word (Text bytes ∷ rest) = None
behind_word word (Word first ∷ rest) = if bytes_eq first word then Some rest else None

-- those of a line; none where it has no tokens
abbrev pub tokens_behind : List ℕ → Result (List Token) TextFault → Option (List Token)
tokens_behind word (Ok tokens) = behind_word word tokens
tokens_behind word (Err fault) = None

-- what a line says behind the name of a process, if it begins with that: its tokens, one space apart
abbrev pub words_on : List ℕ → List ℕ → Option (List ℕ)
words_on process line = option_map line_of (tokens_behind process (tokens_of (without_cr line)))

-- the words of the commands of a process: one for each line that begins with its name, in order
abbrev pub words_of : List ℕ → List ℕ → List (List ℕ)
words_of process source = filter_map (words_on process) (raw_lines source)
