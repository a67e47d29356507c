-- What the steps of private code find. No public clause cites these, and they decide nothing.
use Rattle.std.specs.Prelude.{ℕ, ◌≡◌, ◌+◌, ◌-◌, ◌*◌, ◌^◌, ◌==◌, nat_lt, nat_le, Bool, true, false, not, ◌<◌, ◌&&◌, if◌then◌else◌, Option, Some, None, Result, Ok, Err, List, [], ◌∷◌, ◌++◌, length}
use Rattle.std.specs.Char.{is_ascii_digit}
use Rattle.std.specs.Str.{all_ascii_digits}
use Rattle.dom_text.specs.Numbers.{value_on}
use Rattle.dom_text.specs.Texts.{is_printed}
use Rattle.dom_text.specs.Tokens.{Between, InText, is_blank, reading, with_byte}
use Rattle.dom_text.specs.declared.token.Token.{Token}
use Rattle.dom_text.specs.declared.line.TextFault.{TextFault}
use Rattle.dom_text.specs.declared.quoted.Piece.{Piece}
use Rattle.dom_text.specs.declared.quoted.Piece.TheVariants.{Byte, End}

-- no token goes on into these bytes
abbrev pub AreApart : List ℕ → Type 0
AreApart [] = Unit {0}
AreApart (b ∷ rest) = is_blank b ≡ true

-- the tokens with these in front
abbrev pub with_tokens : List Token → Result (List Token) TextFault → Result (List Token) TextFault
with_tokens front (Ok tokens) = Ok (front ++ tokens)
with_tokens front (Err fault) = Err fault

-- a piece of a text in a line, and what the line goes on with: a byte of the text, or what stands behind its end
abbrev pub IsPiece : List ℕ → Piece → Type 0
IsPiece line (Byte byte rest) = (reading line InText ≡ with_byte byte (reading rest.now InText)) × (length rest.now < length line)
IsPiece line (End rest) = (reading line InText ≡ reading rest.now Between) × (length rest.now < length line)

-- the number of decimal digits, below 2^64
abbrev pub number_of_digits : List ℕ → Option ℕ
number_of_digits text = if all_ascii_digits text && nat_lt (value_on 0 text) (2 ^ 64) then Some (value_on 0 text) else None

-- one decimal digit more, below 2^64
abbrev pub digit_more : ℕ → ℕ → Option ℕ
digit_more n b = if is_ascii_digit b && nat_lt (10 * n + (b - 48)) (2 ^ 64) then Some (10 * n + (b - 48)) else None

-- no blank stands first
abbrev pub BeginsUnblank : List ℕ → Type 0
BeginsUnblank line = (b : ℕ) (rest : List ℕ) → line ≡ b ∷ rest → is_blank b ≡ false

-- a byte of a text that stands for itself
abbrev pub is_plain_byte : ℕ → Bool
is_plain_byte b = is_printed b && (not (b == 34) && not (b == 92))

-- a byte of a word that is no `!`
abbrev pub is_usual_byte : ℕ → Bool
is_usual_byte b = nat_le 35 b && nat_le b 126
