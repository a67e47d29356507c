-- Readings with bytes and tokens in front.
use Rattle.std.proofs.Common.{◌≡◌, ℕ, true, false, List, [], ◌∷◌, ◌++◌, Result, Ok, Err, refl, ap, ◌∙◌, append_assoc, append-nil}
use Rattle.std.specs.Prelude.{◌==◌, if◌then◌else◌}
use Rattle.dom_text.specs.Answers.{Gives, text_refusal}
use Rattle.dom_text.specs.Walk.{with_tokens}
use Rattle.dom_text.specs.Texts.{is_printed}
use Rattle.dom_text.specs.Tokens.{Reading, Between, InText, InWord, Skips, EndsAll, BeginsText, BeginsWord, Breaks, after_move, as_text, as_word, is_blank, reading, tokens_in, with_byte}
use Rattle.dom_text.specs.declared.token.Token.{Token}
use Rattle.dom_text.specs.declared.token.Token.TheVariants.{Text, Word}
use Rattle.dom_text.specs.declared.line.TextFault.{TextFault}
use Rattle.dom_text.specs.declared.line.TextFault.TheVariants.{Byte, Quote, NoMemory}

-- a reading whose open token has these bytes in front
abbrev pub with_bytes : List ℕ → Result Reading TextFault → Result Reading TextFault
with_bytes front (Ok r) = Ok (record { open_bytes = front ++ r.open_bytes; tokens = r.tokens })
with_bytes front (Err fault) = Err fault

pub with_bytes-nil : (r : Result Reading TextFault) → with_bytes [] r ≡ r
with_bytes-nil (Ok r) = refl
with_bytes-nil (Err fault) = refl

pub with_bytes-push : (front : List ℕ) (b : ℕ) (r : Result Reading TextFault) → with_bytes (front ++ b ∷ []) r ≡ with_bytes front (with_byte b r)
with_bytes-push front b (Ok r) = ap (λ bytes. Ok (record { open_bytes = bytes; tokens = r.tokens })) (append_assoc front (b ∷ []) r.open_bytes)
with_bytes-push front b (Err fault) = refl

pub with_byte-bytes : (front : List ℕ) (b : ℕ) (r : Result Reading TextFault) → with_byte b (with_bytes front r) ≡ with_bytes (b ∷ front) r
with_byte-bytes front b (Ok r) = refl
with_byte-bytes front b (Err fault) = refl

pub with_tokens-nil : (r : Result (List Token) TextFault) → with_tokens [] r ≡ r
with_tokens-nil (Ok tokens) = refl
with_tokens-nil (Err fault) = refl

pub with_tokens-append : (xs ys : List Token) (r : Result (List Token) TextFault) → with_tokens (xs ++ ys) r ≡ with_tokens xs (with_tokens ys r)
with_tokens-append xs ys (Ok tokens) = ap Ok (append_assoc xs ys tokens)
with_tokens-append xs ys (Err fault) = refl

-- a fault refuses as it says
pub refuses_so : (A : Type 0) (fault : TextFault) → Gives (text_refusal {A = A} fault) (Err fault)
refuses_so A Byte = refl
refuses_so A Quote = refl
refuses_so A NoMemory = tt

-- no token is begun
abbrev pub IsClosed : Result Reading TextFault → Type 0
IsClosed (Ok r) = r.open_bytes ≡ []
IsClosed (Err fault) = Unit {0}

IsClosed-word : (b : ℕ) (r : Result Reading TextFault) → IsClosed (as_word b r)
IsClosed-word b (Ok r) = refl
IsClosed-word b (Err fault) = tt

IsClosed-text : (r : Result Reading TextFault) → IsClosed (as_text r)
IsClosed-text (Ok r) = refl
IsClosed-text (Err fault) = tt

-- between tokens none is begun
pub between_is_closed : (line : List ℕ) → IsClosed (reading line Between)
between_is_closed [] = refl
between_is_closed (b ∷ rest) =
    elim (is_blank b) as (λ t. IsClosed (after_move (if t then Skips Between else if b == 35 then EndsAll else if b == 34 then BeginsText else if is_printed b then BeginsWord b else Breaks Byte) (reading rest))) [
      | true ↦ between_is_closed rest
      | false ↦ elim (b == 35) as (λ t. IsClosed (after_move (if t then EndsAll else if b == 34 then BeginsText else if is_printed b then BeginsWord b else Breaks Byte) (reading rest))) [
        | true ↦ refl
        | false ↦ elim (b == 34) as (λ t. IsClosed (after_move (if t then BeginsText else if is_printed b then BeginsWord b else Breaks Byte) (reading rest))) [
          | true ↦ IsClosed-text (reading rest InText)
          | false ↦ elim (is_printed b) as (λ t. IsClosed (after_move (if t then BeginsWord b else Breaks Byte) (reading rest))) [
            | true ↦ IsClosed-word b (reading rest InWord)
            | false ↦ tt
          ]
        ]
      ]
    ]

-- a text is its bytes, and the tokens behind it
pub text_tokens : (bytes : List ℕ) (r : Result Reading TextFault) → IsClosed r → tokens_in (as_text (with_bytes bytes r)) ≡ with_tokens (Text bytes ∷ []) (tokens_in r)
text_tokens bytes (Ok r) closed = ap (λ t. Ok (Text t ∷ r.tokens)) (ap (λ rest. bytes ++ rest) closed ∙ append-nil bytes)
text_tokens bytes (Err fault) closed = refl

-- so is a word
pub word_tokens : (b : ℕ) (bytes : List ℕ) (r : Result Reading TextFault) → IsClosed r → tokens_in (as_word b (with_bytes bytes r)) ≡ with_tokens (Word (b ∷ bytes) ∷ []) (tokens_in r)
word_tokens b bytes (Ok r) closed = ap (λ t. Ok (Word (b ∷ t) ∷ r.tokens)) (ap (λ rest. bytes ++ rest) closed ∙ append-nil bytes)
word_tokens b bytes (Err fault) closed = refl
