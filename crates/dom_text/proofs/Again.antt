-- What is written is read again.
use Rattle.std.proofs.Common.{◌≡◌, ◌≢◌, ◌<◌, ◌⊎◌, inl, inr, ◌+◌, ◌*◌, ◌/◌, ◌%◌, ◌^◌, ℕ, zero, suc, Bool, true, false, IsTrue, All, List, [], ◌∷◌, ◌++◌, length, get_or, codes, decimal, eq-eqb, Some, None, Ok, refl, ap, sym, ◌∙◌, append_assoc, append-nil, arith, rules}
use Rattle.std.specs.Prelude.{if◌then◌else◌, ◌&&◌, ◌==◌, nat_lt}
use Rattle.std.specs.Str.{all_ascii_digits}
use Rattle.std.proofs.lemmas.Bool.{false≢true, eqb-true}
use Rattle.std.proofs.lemmas.Fmt.{decimal_digit, decimal_nonempty, first_decimal, digits_decimal, digits_value-decimal, decimal-digits_value}
use Rattle.std.proofs.lemmas.List.Elements.{All-head, All-tail}
use Rattle.dom_text.specs.Numbers.{hex_value, is_decimal_text, number_spelled, value_on}
use Rattle.dom_text.specs.Spelled.{is_word_byte}
use Rattle.dom_text.specs.Walk.{AreApart, with_tokens}
use Rattle.dom_text.specs.Spelled.{AreWritable, IsWritable, line_of, spelling}
use Rattle.dom_text.specs.Texts.{all_escaped, escaped, hex_digit, is_printed, quoted_text}
use Rattle.dom_text.specs.Tokens.{Between, InText, High, after_move, as_text, high_move, low_move, is_blank, reading, tokens_in, tokens_of, with_byte}
use Rattle.dom_text.specs.declared.token.Token.{Token}
use Rattle.dom_text.specs.declared.token.Token.TheVariants.{Word, Text}
use Rattle.dom_text.proofs.Readings.{with_bytes, with_bytes-nil, with_byte-bytes, between_is_closed, text_tokens}
use Rattle.dom_text.proofs.PlainTexts.{behind_reads, plain_reads}
use Rattle.dom_text.proofs.Spelling.{own, decimal_digits}
use Rattle.dom_text.proofs.Words.{BeginsWithWord, word_byte, word_is_first}

-- digits without a leading zero are a decimal text
digits_spell : (word : List ℕ) → all_ascii_digits word ≡ true → 0 < length word → (length word ≡ 1) ⊎ (48 < get_or word 0 0) → is_decimal_text word ≡ true
digits_spell [] h some first = absurd (omega arith)
digits_spell (b ∷ []) h some first = grind arith
digits_spell (b ∷ c ∷ rest) h some (inl one) = absurd (omega arith)
digits_spell (b ∷ c ∷ rest) h some (inr above) = grind arith

decimal_spells : (n : ℕ) → n < 2 ^ 64 → is_decimal_text (decimal n) ≡ true
decimal_spells zero h = ap is_decimal_text (decimal_digit 0 (omega arith))
decimal_spells (suc n) h = digits_spell (decimal (suc n)) (digits_decimal own (suc n) h) (decimal_nonempty (suc n) h) (inr (first_decimal (suc n) (omega arith) h))

pub number_spelled-decimal : (n : ℕ) → n < 2 ^ 64 → number_spelled (decimal n) ≡ Some n
number_spelled-decimal n h =
    let value : value_on 0 (decimal n) ≡ n = digits_value-decimal own n h in
    let small : nat_lt n (2 ^ 64) ≡ true = search rules in
    rw (decimal_spells n h, value, small) refl

-- a decimal text begins with 0 only where it has nothing else
zero_alone : (word : List ℕ) → is_decimal_text word ≡ true → get_or word 0 0 ≡ 48 → length word ≡ 1
zero_alone [] h e = absurd (false≢true h)
zero_alone (b ∷ []) h e = refl
zero_alone (b ∷ c ∷ rest) h e = absurd (false≢true (grind arith))

-- what the two tests of a number's word say
number_parts : (word : List ℕ) (n : ℕ) (a b : Bool) → (if a && b then Some (value_on 0 word) else None) ≡ Some n → (a ≡ true) × (b ≡ true) × (value_on 0 word ≡ n)
number_parts word n true true e = (refl, refl, cc)
number_parts word n true false e = cc
number_parts word n false b e = cc

pub decimal_of_number : (word : List ℕ) (n : ℕ) → number_spelled word ≡ Some n → word ≡ decimal n
decimal_of_number word n e =
    let p = number_parts word n (is_decimal_text word) (nat_lt (value_on 0 word) (2 ^ 64)) e in
    let d = decimal_digits word p.0 in
    sym (decimal-digits_value own word d.0 d.1 (zero_alone word p.0) (search (rules, p.1))) ∙ ap decimal p.2

-- a digit is read as what it stands for
hex_value-digit : (d : ℕ) → d < 16 → hex_value (hex_digit d) ≡ Some d
hex_value-digit d h = by_test (nat_lt d 10) refl where
  by_test : (t : Bool) → nat_lt d 10 ≡ t → hex_value (if t then 48 + d else 87 + d) ≡ Some d
  by_test true e = grind arith
  by_test false e = grind arith

-- two digits are read as their byte
hex_reads : (b : ℕ) (rest : List ℕ) → b < 256 → reading (hex_digit (b / 16) ∷ (hex_digit (b % 16) ∷ rest)) High ≡ with_byte b (reading rest InText)
hex_reads b rest h =
    let high = hex_value-digit (b / 16) (omega arith) in
    let low = hex_value-digit (b % 16) (omega arith) in
    let whole : 16 * (b / 16) + b % 16 ≡ b = omega arith in
    ap (λ v. after_move (high_move (hex_digit (b / 16)) v) (reading (hex_digit (b % 16) ∷ rest))) high
    ∙ (ap (λ v. after_move (low_move (b / 16) (hex_digit (b % 16)) v) (reading rest)) low
    ∙ ap (λ n. with_byte n (reading rest InText)) whole)

-- one byte of a text
escaped_reads : (b : ℕ) (rest : List ℕ) → b < 256 → reading (escaped b ++ rest) InText ≡ with_byte b (reading rest InText)
escaped_reads b rest h = by_quote (b == 34) refl where
  by_printed : (t : Bool) → is_printed b ≡ t → (b == 34) ≡ false → (b == 92) ≡ false → reading ((if t then b ∷ [] else 92 ∷ (120 ∷ (hex_digit (b / 16) ∷ (hex_digit (b % 16) ∷ [])))) ++ rest) InText ≡ with_byte b (reading rest InText)
  by_printed true e quote slash = plain_reads b rest quote slash e
  by_printed false e quote slash = hex_reads b rest h

  by_end : (t : Bool) → (b == 10) ≡ t → (b == 34) ≡ false → (b == 92) ≡ false → reading ((if t then codes "\\n" else if is_printed b then b ∷ [] else 92 ∷ (120 ∷ (hex_digit (b / 16) ∷ (hex_digit (b % 16) ∷ [])))) ++ rest) InText ≡ with_byte b (reading rest InText)
  by_end true e quote slash = ap (λ n. with_byte n (reading rest InText)) (sym (eqb-true b 10 e))
  by_end false e quote slash = by_printed (is_printed b) refl quote slash

  by_slash : (t : Bool) → (b == 92) ≡ t → (b == 34) ≡ false → reading ((if t then codes "\\\\" else if b == 10 then codes "\\n" else if is_printed b then b ∷ [] else 92 ∷ (120 ∷ (hex_digit (b / 16) ∷ (hex_digit (b % 16) ∷ [])))) ++ rest) InText ≡ with_byte b (reading rest InText)
  by_slash true e quote = ap (λ n. with_byte n (reading rest InText)) (sym (eqb-true b 92 e))
  by_slash false e quote = by_end (b == 10) refl quote e

  by_quote : (t : Bool) → (b == 34) ≡ t → reading ((if t then codes "\\\"" else if b == 92 then codes "\\\\" else if b == 10 then codes "\\n" else if is_printed b then b ∷ [] else 92 ∷ (120 ∷ (hex_digit (b / 16) ∷ (hex_digit (b % 16) ∷ [])))) ++ rest) InText ≡ with_byte b (reading rest InText)
  by_quote true e = ap (λ n. with_byte n (reading rest InText)) (sym (eqb-true b 34 e))
  by_quote false e = by_slash (b == 92) refl e

-- all bytes of a text
text_reads : (bytes rest : List ℕ) → All (λ b. b < 256) bytes → reading (all_escaped bytes ++ rest) InText ≡ with_bytes bytes (reading rest InText)
text_reads [] rest h = sym (with_bytes-nil (reading rest InText))
text_reads (b ∷ bytes) rest h =
    ap (λ t. reading t InText) (append_assoc (escaped b) (all_escaped bytes) rest)
    ∙ (escaped_reads b (all_escaped bytes ++ rest) (All-head (λ b. b < 256) b bytes h)
    ∙ (ap (with_byte b) (text_reads bytes rest (All-tail (λ b. b < 256) b bytes h))
    ∙ with_byte-bytes bytes b (reading rest InText)))

-- a text, and what is apart from it
quoted_is_first : (bytes behind : List ℕ) → All (λ b. b < 256) bytes → AreApart behind → tokens_of (quoted_text bytes ++ behind) ≡ with_tokens (Text bytes ∷ []) (tokens_of behind)
quoted_is_first bytes behind h apart =
    ap (λ t. tokens_in (as_text (reading t InText))) (append_assoc (all_escaped bytes) (34 ∷ []) behind)
    ∙ (ap (λ r. tokens_in (as_text r)) (text_reads bytes (34 ∷ behind) h ∙ ap (with_bytes bytes) (behind_reads behind apart))
    ∙ text_tokens bytes (reading behind Between) (between_is_closed behind))

pub quoted_again : (bytes : List ℕ) → All (λ b. b < 256) bytes → tokens_of (quoted_text bytes) ≡ Ok (Text bytes ∷ [])
quoted_again bytes h = ap tokens_of (sym (append-nil (quoted_text bytes))) ∙ quoted_is_first bytes [] h tt

-- no blank, no quote and no `#` begins a word
word_begun : (b : ℕ) (word behind : List ℕ) → b ≢ 35 → is_word_byte b ≡ true → BeginsWithWord (b ∷ word ++ behind)
word_begun b word behind hash h a rest e =
    let same : b ≡ a = ap (λ t. get_or t 0 0) e in
    let facts = word_byte b h in
    (ap is_blank (sym same) ∙ facts.1, λ quote. absurd (false≢true (sym facts.2 ∙ eq-eqb b 34 (same ∙ quote))), λ is. hash (same ∙ is))

-- a token, and what is apart from it
token_is_first : (token : Token) (behind : List ℕ) → IsWritable token → AreApart behind → tokens_of (spelling token ++ behind) ≡ with_tokens (token ∷ []) (tokens_of behind)
token_is_first (Word []) behind h apart = absurd h
token_is_first (Word (b ∷ word)) behind h apart = word_is_first (b ∷ word) behind (word_begun b word behind h.0 (All-head (λ b. IsTrue (is_word_byte b)) b word h.1)) (omega arith) h.1 apart
token_is_first (Text bytes) behind h apart = quoted_is_first bytes behind h apart

pub line_again : (tokens : List Token) → AreWritable tokens → tokens_of (line_of tokens) ≡ Ok tokens
line_again [] h = refl
line_again (token ∷ []) h = ap tokens_of (sym (append-nil (spelling token))) ∙ token_is_first token [] h.0 tt
line_again (token ∷ other ∷ rest) h =
    token_is_first token (32 ∷ line_of (other ∷ rest)) h.0 refl
    ∙ ap (with_tokens (token ∷ [])) (line_again (other ∷ rest) h.1)
