-- The numbers that words spell.
use Rattle.std.specs.Prelude.{ℕ, ◌+◌, ◌-◌, ◌*◌, ◌^◌, ◌==◌, nat_lt, nat_le, Bool, false, ◌&&◌, if◌then◌else◌, Option, Some, None, List, [], ◌∷◌, length}
use Rattle.std.specs.Char.{is_ascii_digit}
use Rattle.std.specs.Str.{all_ascii_digits}

-- `0`, or a digit 1 to 9 and digits behind it
abbrev pub is_decimal_text : List ℕ → Bool
is_decimal_text [] = false
is_decimal_text (b ∷ []) = is_ascii_digit b
is_decimal_text (b ∷ c ∷ rest) = (nat_le 49 b && nat_le b 57) && all_ascii_digits (c ∷ rest)

-- the number of decimal digits, behind those that give n
abbrev pub value_on : ℕ → List ℕ → ℕ
value_on n [] = n
value_on n (b ∷ rest) = value_on (10 * n + (b - 48)) rest

-- the number that a word spells: a decimal text of a number below 2^64
abbrev pub number_spelled : List ℕ → Option ℕ
number_spelled word = if is_decimal_text word && nat_lt (value_on 0 word) (2 ^ 64) then Some (value_on 0 word) else None

-- what a hexadecimal digit stands for; there are no upper-case ones
abbrev pub hex_value : ℕ → Option ℕ
hex_value b =
    if nat_le 48 b && nat_le b 57 then Some (b - 48)
    else if nat_le 97 b && nat_le b 102 then Some (b - 87)
    else None

-- one hexadecimal digit more
abbrev pub hex_more : Option ℕ → ℕ → (ℕ → Option ℕ) → Option ℕ
hex_more None n behind = None
hex_more (Some digit) n behind = behind (16 * n + digit)

-- the number of hexadecimal digits, behind those that give n
abbrev pub hex_on : List ℕ → ℕ → Option ℕ
hex_on [] n = Some n
hex_on (b ∷ rest) n = hex_more (hex_value b) n (hex_on rest)

-- the number that exactly eight hexadecimal digits spell
abbrev pub hex8_of : List ℕ → Option ℕ
hex8_of word = if length word == 8 then hex_on word 0 else None
