-- Words in a line.
use Rattle.std.proofs.Common.{◌≡◌, ◌≢◌, ◌<◌, ◌⊎◌, ℕ, true, false, IsTrue, All, List, [], ◌∷◌, ◌++◌, length, Err, refl, ap, sym, ◌∙◌, arith}
use Rattle.std.specs.Prelude.{◌==◌}
use Rattle.std.proofs.lemmas.List.Elements.{All-head, All-tail}
use Rattle.std.proofs.lemmas.Bool.{ne_eqb, false≢true}
use Rattle.dom_text.specs.Spelled.{is_word_byte}
use Rattle.dom_text.specs.Walk.{AreApart, with_tokens}
use Rattle.dom_text.specs.Texts.{is_printed}
use Rattle.dom_text.specs.Tokens.{Between, InWord, Puts, BeginsWord, Breaks, after_move, as_word, fault_at, is_blank, move_at, reading, tokens_in, tokens_of, with_byte}
use Rattle.dom_text.specs.declared.token.Token.TheVariants.{Word}
use Rattle.dom_text.proofs.Readings.{with_bytes, with_bytes-nil, with_byte-bytes, between_is_closed, word_tokens}

-- a byte of a word is printed, and no blank or quote
pub word_byte : (b : ℕ) → is_word_byte b ≡ true → (is_printed b ≡ true) × (is_blank b ≡ false) × ((b == 34) ≡ false)
word_byte b h = grind arith

-- one that is none and no blank
other_byte : (b : ℕ) → is_word_byte b ≡ false → is_blank b ≡ false → ((b == 34) ≡ true) ⊎ (((b == 34) ≡ false) × (is_printed b ≡ false))
other_byte b h k = grind arith

-- a word goes on with its bytes
word_move : (b : ℕ) → is_word_byte b ≡ true → move_at InWord b ≡ Puts b InWord
word_move b h = let w = word_byte b h in rw (w.1, w.2, w.0) refl

-- it breaks at other bytes
word_breaks : (b : ℕ) → is_word_byte b ≡ false → is_blank b ≡ false → move_at InWord b ≡ Breaks (fault_at b)
word_breaks b h k = grind arith

-- what is apart from a word
apart_reads : (rest : List ℕ) → AreApart rest → reading rest InWord ≡ reading rest Between
apart_reads [] h = refl
apart_reads (b ∷ rest) h = rw h refl

-- a word's bytes are read as they are
pub word_reads : (word rest : List ℕ) → All (λ b. IsTrue (is_word_byte b)) word → reading (word ++ rest) InWord ≡ with_bytes word (reading rest InWord)
word_reads [] rest h = sym (with_bytes-nil (reading rest InWord))
word_reads (b ∷ word) rest h =
    ap (λ m. after_move m (reading (word ++ rest))) (word_move b (All-head (λ b. IsTrue (is_word_byte b)) b word h))
    ∙ (ap (with_byte b) (word_reads word rest (All-tail (λ b. IsTrue (is_word_byte b)) b word h))
    ∙ with_byte-bytes word b (reading rest InWord))

-- a line that begins with no blank, quote or `#`
abbrev pub BeginsWithWord : List ℕ → Type 0
BeginsWithWord line = (b : ℕ) (rest : List ℕ) → line ≡ b ∷ rest → (is_blank b ≡ false) × (b ≢ 34) × (b ≢ 35)

word_begins : (b : ℕ) → is_word_byte b ≡ true → b ≢ 35 → move_at Between b ≡ BeginsWord b
word_begins b h hash = let w = word_byte b h in rw (w.1, ne_eqb b 35 hash, w.2, w.0) refl

-- a word, and what is apart from it
pub word_is_first : (word rest : List ℕ) → BeginsWithWord (word ++ rest) → 0 < length (word ++ rest) → All (λ b. IsTrue (is_word_byte b)) word → AreApart rest → tokens_of (word ++ rest) ≡ with_tokens (Word word ∷ []) (tokens_of rest)
word_is_first [] [] begun some bytes apart = absurd (omega (arith, some))
word_is_first [] (b ∷ rest) begun some bytes apart = absurd (false≢true (sym (begun b rest refl).0 ∙ apart))
word_is_first (b ∷ word) rest begun some bytes apart =
    ap (λ m. tokens_in (after_move m (reading (word ++ rest)))) (word_begins b (All-head (λ b. IsTrue (is_word_byte b)) b word bytes) (begun b (word ++ rest) refl).2)
    ∙ (ap (λ r. tokens_in (as_word b r)) (word_reads word rest (All-tail (λ b. IsTrue (is_word_byte b)) b word bytes) ∙ ap (with_bytes word) (apart_reads rest apart))
    ∙ word_tokens b word (reading rest Between) (between_is_closed rest))

-- no word begins with such a byte
begins_not : (b : ℕ) → is_word_byte b ≡ false → is_blank b ≡ false → b ≢ 34 → b ≢ 35 → move_at Between b ≡ Breaks (fault_at b)
begins_not b h k quote hash = grind arith

-- a word that is broken off
pub word_is_broken : (word : List ℕ) (b : ℕ) (rest : List ℕ) → BeginsWithWord (word ++ b ∷ rest) → All (λ b. IsTrue (is_word_byte b)) word → is_word_byte b ≡ false → is_blank b ≡ false → tokens_of (word ++ b ∷ rest) ≡ Err (fault_at b)
word_is_broken [] b rest begun bytes other apart =
    let first = begun b rest refl in
    ap (λ m. tokens_in (after_move m (reading rest))) (begins_not b other apart first.1 first.2)
word_is_broken (a ∷ word) b rest begun bytes other apart =
    ap (λ m. tokens_in (after_move m (reading (word ++ b ∷ rest)))) (word_begins a (All-head (λ b. IsTrue (is_word_byte b)) a word bytes) (begun a (word ++ b ∷ rest) refl).2)
    ∙ (ap (λ r. tokens_in (as_word a r)) (word_reads word (b ∷ rest) (All-tail (λ b. IsTrue (is_word_byte b)) a word bytes))
    ∙ ap (λ m. tokens_in (as_word a (with_bytes word (after_move m (reading rest))))) (word_breaks b other apart))
