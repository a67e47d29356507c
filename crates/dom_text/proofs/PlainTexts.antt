-- The bytes of a text that stand for themselves.
use Rattle.std.proofs.Common.{◌≡◌, ℕ, true, false, IsTrue, All, List, [], ◌∷◌, ◌++◌, refl, ap, sym, ◌∙◌, arith}
use Rattle.std.specs.Prelude.{◌==◌}
use Rattle.std.proofs.lemmas.List.Elements.{All-head, All-tail}
use Rattle.dom_text.specs.Texts.{is_printed}
use Rattle.dom_text.specs.Tokens.{Behind, Between, InText, as_text, reading, tokens_in, tokens_of, with_byte}
use Rattle.dom_text.specs.Walk.{AreApart, is_plain_byte, with_tokens}
use Rattle.dom_text.specs.declared.token.Token.TheVariants.{Text}
use Rattle.dom_text.proofs.Readings.{between_is_closed, text_tokens, with_bytes, with_bytes-nil, with_byte-bytes}

-- a printed byte that is no quote and no `\` stands for itself
pub plain_reads : (b : ℕ) (rest : List ℕ) → (b == 34) ≡ false → (b == 92) ≡ false → is_printed b ≡ true → reading (b ∷ rest) InText ≡ with_byte b (reading rest InText)
plain_reads b rest quote slash printed = rw (quote, slash, printed) refl

plain_parts : (b : ℕ) → is_plain_byte b ≡ true → ((b == 34) ≡ false) × ((b == 92) ≡ false) × (is_printed b ≡ true)
plain_parts b h = grind arith

-- so do several
pub all_plain_read : (bytes rest : List ℕ) → All (λ b. IsTrue (is_plain_byte b)) bytes → reading (bytes ++ rest) InText ≡ with_bytes bytes (reading rest InText)
all_plain_read [] rest h = sym (with_bytes-nil (reading rest InText))
all_plain_read (b ∷ bytes) rest h =
    let p = plain_parts b (All-head (λ b. IsTrue (is_plain_byte b)) b bytes h) in
    plain_reads b (bytes ++ rest) p.0 p.1 p.2
    ∙ (ap (with_byte b) (all_plain_read bytes rest (All-tail (λ b. IsTrue (is_plain_byte b)) b bytes h))
    ∙ with_byte-bytes bytes b (reading rest InText))

pub behind_reads : (rest : List ℕ) → AreApart rest → reading rest Behind ≡ reading rest Between
behind_reads [] h = refl
behind_reads (b ∷ rest) h = rw h refl

-- a text of such bytes, and what is apart from it
pub plain_is_first : (bytes behind : List ℕ) → All (λ b. IsTrue (is_plain_byte b)) bytes → AreApart behind → tokens_in (as_text (reading (bytes ++ 34 ∷ behind) InText)) ≡ with_tokens (Text bytes ∷ []) (tokens_of behind)
plain_is_first bytes behind h apart =
    ap (λ r. tokens_in (as_text r)) (all_plain_read bytes (34 ∷ behind) h ∙ ap (with_bytes bytes) (behind_reads behind apart))
    ∙ text_tokens bytes (reading behind Between) (between_is_closed behind)
