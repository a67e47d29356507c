-- How a line is read as tokens: a table of what each byte does where it stands.
use Rattle.std.specs.Prelude.{ℕ, ◌+◌, ◌*◌, ◌==◌, Bool, ◌||◌, if◌then◌else◌, Option, Some, None, Result, Ok, Err, List, [], ◌∷◌}
use Rattle.dom_text.specs.Texts.{is_printed}
use Rattle.dom_text.specs.Numbers.{hex_value}
use Rattle.dom_text.specs.declared.token.Token.{Token}
use Rattle.dom_text.specs.declared.token.Token.TheVariants.{Word, Text}
use Rattle.dom_text.specs.declared.line.TextFault.{TextFault}
use Rattle.dom_text.specs.declared.line.TextFault.TheVariants.{Byte, Quote}

-- where a byte stands: between tokens, in a word, in a text, behind its `\`, behind its `\x`,
-- behind the first of two hexadecimal digits, behind the quote that ends a text
pub data State : Type 0 where
  Between : State
  InWord : State
  InText : State
  Escape : State
  High : State
  Low : (digit : ℕ) → State
  Behind : State

-- what a byte does: it is in no token's bytes, a token that is begun has this byte next, it begins a word
-- or a text, it ends the tokens, or it may not stand there
pub data Move : Type 0 where
  Skips : (state : State) → Move
  Puts : (byte : ℕ) (state : State) → Move
  BeginsWord : (byte : ℕ) → Move
  BeginsText : Move
  EndsAll : Move
  Breaks : (fault : TextFault) → Move

abbrev pub is_blank : ℕ → Bool
is_blank b = (b == 32) || (b == 9)

-- the fault of a byte where it may not stand: a byte that may stand nowhere, or a fault of quotes
abbrev pub fault_at : ℕ → TextFault
fault_at b = if is_printed b || (b == 9) then Quote else Byte

-- the first hexadecimal digit of a byte
abbrev pub high_move : ℕ → Option ℕ → Move
high_move b None = Breaks (fault_at b)
high_move b (Some digit) = Skips (Low digit)

-- the second one
abbrev pub low_move : ℕ → ℕ → Option ℕ → Move
low_move high b None = Breaks (fault_at b)
low_move high b (Some digit) = Puts (16 * high + digit) InText

abbrev pub move_at : State → ℕ → Move
move_at Between b =
    if is_blank b then Skips Between
    else if b == 35 then EndsAll
    else if b == 34 then BeginsText
    else if is_printed b then BeginsWord b
    else Breaks Byte
move_at InWord b =
    if is_blank b then Skips Between
    else if b == 34 then Breaks Quote
    else if is_printed b then Puts b InWord
    else Breaks Byte
move_at InText b =
    if b == 34 then Skips Behind
    else if b == 92 then Skips Escape
    else if is_printed b then Puts b InText
    else Breaks (fault_at b)
move_at Escape b =
    if b == 34 then Puts 34 InText
    else if b == 92 then Puts 92 InText
    else if b == 110 then Puts 10 InText
    else if b == 120 then Skips High
    else Breaks (fault_at b)
move_at High b = high_move b (hex_value b)
move_at (Low high) b = low_move high b (hex_value b)
move_at Behind b = if is_blank b then Skips Between else Breaks (fault_at b)

-- what is read from a state on: the bytes that the token there still has, and the tokens behind it
pub record Reading : Type 0 where
  pub open_bytes : List ℕ
  pub tokens : List Token

abbrev pub no_tokens : Reading
no_tokens = record { open_bytes = []; tokens = [] }

-- the line ends here: no text may be begun
abbrev pub end_at : State → Result Reading TextFault
end_at Between = Ok no_tokens
end_at InWord = Ok no_tokens
end_at Behind = Ok no_tokens
end_at _ = Err Quote

abbrev pub with_byte : ℕ → Result Reading TextFault → Result Reading TextFault
with_byte b (Ok r) = Ok (record { open_bytes = b ∷ r.open_bytes; tokens = r.tokens })
with_byte b (Err fault) = Err fault

-- a word of this byte and the bytes that it still has
abbrev pub as_word : ℕ → Result Reading TextFault → Result Reading TextFault
as_word b (Ok r) = Ok (record { open_bytes = []; tokens = Word (b ∷ r.open_bytes) ∷ r.tokens })
as_word b (Err fault) = Err fault

abbrev pub as_text : Result Reading TextFault → Result Reading TextFault
as_text (Ok r) = Ok (record { open_bytes = []; tokens = Text r.open_bytes ∷ r.tokens })
as_text (Err fault) = Err fault

-- what a move makes of what is read behind the byte
abbrev pub after_move : Move → (State → Result Reading TextFault) → Result Reading TextFault
after_move (Skips state) behind = behind state
after_move (Puts byte state) behind = with_byte byte (behind state)
after_move (BeginsWord byte) behind = as_word byte (behind InWord)
after_move BeginsText behind = as_text (behind InText)
after_move EndsAll behind = Ok no_tokens
after_move (Breaks fault) behind = Err fault

-- bytes from a state on; the first byte from the left that may not stand where it stands decides
abbrev pub reading : List ℕ → State → Result Reading TextFault
reading [] state = end_at state
reading (b ∷ rest) state = after_move (move_at state b) (reading rest)

abbrev pub tokens_in : Result Reading TextFault → Result (List Token) TextFault
tokens_in (Ok r) = Ok r.tokens
tokens_in (Err fault) = Err fault

-- the tokens of a line without its end, or the first fault
abbrev pub tokens_of : List ℕ → Result (List Token) TextFault
tokens_of line = tokens_in (reading line Between)
