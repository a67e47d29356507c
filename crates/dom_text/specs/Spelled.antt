-- Lines that are written token by token.
use Rattle.std.specs.Prelude.{ℕ, ◌≢◌, ◌<◌, ◌==◌, Bool, not, ◌&&◌, IsTrue, All, map, List, [], ◌∷◌}
use Rattle.std.specs.List.{join_with_byte}
use Rattle.dom_text.specs.Texts.{is_printed, quoted_text}
use Rattle.dom_text.specs.declared.token.Token.{Token}
use Rattle.dom_text.specs.declared.token.Token.TheVariants.{Word, Text}

-- a byte that may stand in a word
abbrev pub is_word_byte : ℕ → Bool
is_word_byte b = is_printed b && (not (b == 32) && not (b == 34))

-- a word has bytes of words, and begins with no `#`
abbrev pub IsWord : List ℕ → Type 0
IsWord [] = ⊥
IsWord (b ∷ rest) = (b ≢ 35) × All (λ b. IsTrue (is_word_byte b)) (b ∷ rest)

-- a token that can be written: a text may have any bytes
abbrev pub IsWritable : Token → Type 0
IsWritable (Word word) = IsWord word
IsWritable (Text bytes) = All (λ b. b < 256) bytes

-- how it is written
abbrev pub spelling : Token → List ℕ
spelling (Word word) = word
spelling (Text bytes) = quoted_text bytes

-- tokens one space apart
abbrev pub line_of : List Token → List ℕ
line_of tokens = join_with_byte 32 (map spelling tokens)

abbrev pub AreWritable : List Token → Type 0
AreWritable [] = Unit {0}
AreWritable (token ∷ rest) = IsWritable token × AreWritable rest
