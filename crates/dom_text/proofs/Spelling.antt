-- Words and the numbers that they spell.
use Rattle.std.proofs.Common.{◌≡◌, ◌≤◌, ◌<◌, ◌+◌, ◌-◌, ◌*◌, ◌^◌, ℕ, Bool, true, false, List, [], ◌∷◌, length, get_or, drop, Option, Some, None, refl, ap, ◌∙◌, arith, rules}
use Rattle.std.specs.Prelude.{nat_lt, ◌&&◌, if◌then◌else◌}
use Rattle.std.specs.Char.{is_ascii_digit}
use Rattle.std.specs.Str.{all_ascii_digits}
use Rattle.std.proofs.lemmas.Bool.{false≢true}
use Rattle.std.proofs.lemmas.List.{drop_all, drop_more}
use Rattle.std.proofs.lemmas.Nat.{pow-add}
use Rattle.std.proofs.Math.Pow.{pow_mono}
use Rattle.std.proofs.lemmas.Str.Parse.{IsNumeralModel, numerals_by_fold}
use Rattle.dom_text.specs.Numbers.{hex_on, hex_value, hex_more, is_decimal_text, value_on}
use Rattle.dom_text.specs.Walk.{digit_more}

-- ---- decimal digits

-- the number of digits, behind those that give n, below 2^64
abbrev pub digits_on : ℕ → List ℕ → Option ℕ
digits_on n text = if all_ascii_digits text && nat_lt (value_on n text) (2 ^ 64) then Some (value_on n text) else None

abbrev pub digits_behind : Option ℕ → List ℕ → Option ℕ
digits_behind None text = None
digits_behind (Some n) text = digits_on n text

value_grows : (n : ℕ) (text : List ℕ) → n ≤ value_on n text
value_grows n [] = omega arith
value_grows n (b ∷ text) =
    let more = value_grows (10 * n + (b - 48)) text in
    omega (arith, more)

-- a number that is too great stays so
past : (n : ℕ) (text : List ℕ) → nat_lt n (2 ^ 64) ≡ false → digits_on n text ≡ None
past n text e =
    let more = value_grows n text in
    let large : nat_lt (value_on n text) (2 ^ 64) ≡ false = grind (arith, more, e) in
    rw large (by_test (all_ascii_digits text)) where
      by_test : (t : Bool) → (if t && false then Some (value_on n text) else None) ≡ None
      by_test true = refl
      by_test false = refl

digits_step : (n b : ℕ) (text : List ℕ) → digits_on n (b ∷ text) ≡ digits_behind (digit_more n b) text
digits_step n b text = by_tests (is_ascii_digit b) refl (nat_lt (10 * n + (b - 48)) (2 ^ 64)) refl where
  by_tests : (d : Bool) → is_ascii_digit b ≡ d → (t : Bool) → nat_lt (10 * n + (b - 48)) (2 ^ 64) ≡ t → digits_on n (b ∷ text) ≡ digits_behind (digit_more n b) text
  by_tests false e t f = rw e refl
  by_tests true e true f = rw (e, f) refl
  by_tests true e false f = rw (e, f) (past (10 * n + (b - 48)) text f)

pub one_more : (text : List ℕ) (i n : ℕ) → i < length text → digits_on n (drop i text) ≡ digits_behind (digit_more n (get_or text i 0)) (drop (i + 1) text)
one_more text i n h = ap (digits_on n) (drop_more text i 0 h) ∙ digits_step n (get_or text i 0) (drop (i + 1) text)

pub digits_end : (text : List ℕ) (i n : ℕ) → length text ≤ i → n < 2 ^ 64 → digits_on n (drop i text) ≡ Some n
digits_end text i n h small =
    let below : nat_lt n (2 ^ 64) ≡ true = search (rules, small) in
    rw (drop_all i text h, below) refl

-- a decimal text is of digits, and of one at least
pub decimal_digits : (word : List ℕ) → is_decimal_text word ≡ true → (all_ascii_digits word ≡ true) × (0 < length word)
decimal_digits [] h = absurd (false≢true h)
decimal_digits (b ∷ []) h = grind arith
decimal_digits (b ∷ c ∷ rest) h = (grind arith, omega arith)

pub own : IsNumeralModel (λ ds. all_ascii_digits ds ≡ true) (value_on 0)
own = numerals_by_fold _ (search rules) (λ n ds. value_on n ds) (search rules)

-- one hexadecimal digit more
pub hex_bound : (i n d : ℕ) → i < 8 → n < 2 ^ (4 * i) → d < 16 → (16 * n + d < 2 ^ (4 * (i + 1))) × (16 * n + d < 2 ^ 32)
hex_bound i n d h k small =
    let more : 2 ^ (4 * (i + 1)) ≡ 2 ^ (4 * i) * 16 = ap (λ e. 2 ^ e) (omega arith) ∙ pow-add 2 (4 * i) 4 in
    let below : 16 * n + d < 2 ^ (4 * (i + 1)) = omega (arith, more) in
    let within : 4 * (i + 1) ≤ 32 = omega arith in
    let whole : 2 ^ (4 * (i + 1)) ≤ 2 ^ 32 = pow_mono within in
    (below, omega (arith, below, whole))

pub hex_step : (word : List ℕ) (i n d : ℕ) → i < length word → hex_value (get_or word i 0) ≡ Some d → hex_on (drop i word) n ≡ hex_on (drop (i + 1) word) (16 * n + d)
hex_step word i n d h e = ap (λ t. hex_on t n) (drop_more word i 0 h) ∙ ap (λ v. hex_more v n (hex_on (drop (i + 1) word))) e
