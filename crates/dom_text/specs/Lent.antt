-- Tokens that are lent by their line, seen as tokens of their own.
use Rattle.std.specs.Prelude.{Option, Some, Result, Ok, Err, List, map}
use Rattle.dom_text.specs.Answers.{text_refusal}
use Rattle.dom_text.specs.declared.line.TextFault.{TextFault}
use Rattle.dom_text.specs.declared.token.Token.{Token}
use Rattle.dom_text.specs.declared.token.Token.TheVariants.{Word, Text}
use Rattle.dom_text.specs.declared.token.TokenRef.{TokenRef}
use Rattle.dom_text.specs.declared.token.TokenRef.TheVariants.{Word as LentWord, Plain as LentText, Text as OwnText}

abbrev pub owned_token : TokenRef → Token
owned_token (LentWord word) = Word word.now
owned_token (LentText bytes) = Text bytes.now
owned_token (OwnText bytes) = Text bytes

abbrev pub owned : List TokenRef → List Token
owned tokens = map owned_token tokens

-- what a call answers that reads the tokens of a line into a list, and left these there
abbrev pub lent_answer : List TokenRef → Result (Unit {0}) TextFault → Option (Result (List Token) TextFault)
lent_answer left (Ok done) = Some (Ok (owned left))
lent_answer left (Err fault) = text_refusal fault
