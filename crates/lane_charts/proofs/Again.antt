-- What is written for a picture is read again.
use Rattle.std.proofs.Common.{◌≡◌, ◌<◌, ◌⊎◌, inl, inr, ◌+◌, ◌-◌, ◌^◌, ℕ, decimal, zero, suc, Bool, true, false, IsTrue, All, List, [], ◌∷◌, ◌++◌, Option, Some, None, refl, ap, sym, ◌∙◌, append_assoc, append-nil, arith}
use Rattle.std.specs.Prelude.{◌&&◌, ◌==◌, not, if◌then◌else◌}
use Rattle.std.specs.Char.{is_ascii_digit}
use Rattle.std.specs.List.{list_all}
use Rattle.std.specs.Str.{all_ascii_digits}
use Rattle.std.proofs.lemmas.Bool.{false≢true, eqb-true, not-true}
use Rattle.std.proofs.lemmas.List.Elements.{All-append, All-cons, All-nil, All-head, All-tail}
use Rattle.std.proofs.lemmas.Fmt.{digits_decimal}
use Rattle.dom_text.proofs.Again.{number_spelled-decimal}
use Rattle.dom_text.proofs.Spelling.{own}
use Rattle.lane_charts.specs.Escapes.{escape, escaped_text, is_seen, name_of, unnamed, written}
use Rattle.lane_charts.specs.Readings.{byte_named, byte_numbered, is_plain, read_on, read_again}

-- ---- what holds of each byte, since it was tried

abbrev all_below : (ℕ → Bool) → ℕ → Bool
all_below test zero = true
all_below test (suc n) = test n && all_below test n

pub both : (a b : Bool) → (a && b) ≡ true → (a ≡ true) × (b ≡ true)
both true true h = (refl, refl)
both true false h = absurd (false≢true h)
both false b h = absurd (false≢true h)

last_or_below : (n b : ℕ) → b < suc n → (b ≡ n) ⊎ (b < n)
last_or_below n b low = grind arith

by_place : (test : ℕ → Bool) (n b : ℕ) → test n ≡ true → (b < n → test b ≡ true) → (b ≡ n) ⊎ (b < n) → test b ≡ true
by_place test n b here below (inl e) = ap test e ∙ here
by_place test n b here below (inr lower) = below lower

one_below : (test : ℕ → Bool) (n b : ℕ) → all_below test n ≡ true → b < n → test b ≡ true
one_below test zero b h low = absurd (omega arith)
one_below test (suc n) b h low =
    let parts = both (test n) (all_below test n) h in
    by_place test n b parts.0 (λ lower. one_below test n b parts.1 lower) (last_or_below n b low)

-- ---- digits

-- the byte is no `;`
abbrev is_inside : ℕ → Bool
is_inside b = not (b == 59)

digit_is_plain : (b : ℕ) → is_ascii_digit b ≡ true → is_plain b ≡ true
digit_is_plain b h = grind arith

digit_is_inside : (b : ℕ) → is_ascii_digit b ≡ true → is_inside b ≡ true
digit_is_inside b h = grind arith

digits_pass : (test : ℕ → Bool) (text : List ℕ) → ((b : ℕ) → is_ascii_digit b ≡ true → test b ≡ true) → all_ascii_digits text ≡ true → list_all test text ≡ true
digits_pass test [] each h = refl
digits_pass test (b ∷ text) each h =
    let parts = both (is_ascii_digit b) (all_ascii_digits text) h in
    ap (λ t. t && list_all test text) (each b parts.0) ∙ digits_pass test text each parts.1

decimal_passes : (test : ℕ → Bool) (n : ℕ) → n < 2 ^ 64 → ((b : ℕ) → is_ascii_digit b ≡ true → test b ≡ true) → list_all test (decimal n) ≡ true
decimal_passes test n h each = digits_pass test (decimal n) each (digits_decimal own n h)

-- ---- no markup

all_of : (text : List ℕ) → list_all is_plain text ≡ true → All (λ b. IsTrue (is_plain b)) text
all_of [] h = All-nil (λ b. IsTrue (is_plain b))
all_of (b ∷ text) h =
    let parts = both (is_plain b) (list_all is_plain text) h in
    All-cons (λ b. IsTrue (is_plain b)) b text parts.0 (all_of text parts.1)

pub list_all-append : (xs ys : List ℕ) → list_all is_plain xs ≡ true → list_all is_plain ys ≡ true → list_all is_plain (xs ++ ys) ≡ true
list_all-append [] ys left right = right
list_all-append (x ∷ xs) ys left right =
    let parts = both (is_plain x) (list_all is_plain xs) left in
    ap (λ t. t && list_all is_plain (xs ++ ys)) parts.0 ∙ list_all-append xs ys parts.1 right

-- what stands for a byte, without that of the bytes that are not seen
abbrev is_clean : Option (List ℕ) → Bool → ℕ → Bool
is_clean (Some name) seen b = list_all is_plain name
is_clean None true b = is_plain b
is_clean None false b = true

each_is_clean : (b : ℕ) → b < 256 → is_clean (name_of b) (is_seen b) b ≡ true
each_is_clean b h = one_below (λ b. is_clean (name_of b) (is_seen b) b) 256 b refl h

unnamed_is_plain : (seen : Bool) (b : ℕ) → b < 256 → is_clean None seen b ≡ true → list_all is_plain (unnamed seen b) ≡ true
unnamed_is_plain true b h clean = ap (λ t. t && true) clean
unnamed_is_plain false b h clean = list_all-append (decimal (9216 + b)) (59 ∷ []) (decimal_passes is_plain (9216 + b) (omega arith) digit_is_plain) refl

written_is_plain : (name : Option (List ℕ)) (b : ℕ) → b < 256 → is_clean name (is_seen b) b ≡ true → list_all is_plain (written name b) ≡ true
written_is_plain (Some name) b h clean = list_all-append name (59 ∷ []) clean refl
written_is_plain None b h clean = unnamed_is_plain (is_seen b) b h clean

pub escaped_is_plain : (text : List ℕ) → All (λ b. b < 256) text → All (λ b. IsTrue (is_plain b)) (escaped_text text)
escaped_is_plain [] h = All-nil (λ b. IsTrue (is_plain b))
escaped_is_plain (b ∷ text) h =
    let low = All-head (λ b. b < 256) b text h in
    All-append (λ b. IsTrue (is_plain b)) (escape b) (escaped_text text)
    (all_of (escape b) (written_is_plain (name_of b) b low (each_is_clean b low)))
    (escaped_is_plain text (All-tail (λ b. b < 256) b text h))

-- ---- reading again

-- the name of a byte is read as that byte, and where it has none it is no `&`
abbrev is_read : Option (List ℕ) → ℕ → Bool
is_read (Some name) b = list_all is_inside name && (byte_named name == b)
is_read None b = not (b == 38)

each_is_read : (b : ℕ) → b < 256 → is_read (name_of b) b ≡ true
each_is_read b h = one_below (λ b. is_read (name_of b) b) 256 b refl h

reference_reads : (reference before rest : List ℕ) → list_all is_inside reference ≡ true → read_on (Some before) (reference ++ 59 ∷ rest) ≡ byte_named (before ++ reference) ∷ read_on None rest
unfolding read_on
reference_reads [] before rest h = ap (λ name. byte_named name ∷ read_on None rest) (sym (append-nil before))
reference_reads (c ∷ reference) before rest h =
    let parts = both (is_inside c) (list_all is_inside reference) h in
    let other = not-true (c == 59) parts.0 in
    ap (λ t. if t then byte_named before ∷ read_on None (reference ++ 59 ∷ rest) else read_on (Some (before ++ c ∷ [])) (reference ++ 59 ∷ rest)) other
    ∙ (reference_reads reference (before ++ c ∷ []) rest parts.1
    ∙ ap (λ name. byte_named name ∷ read_on None rest) (append_assoc before (c ∷ []) reference))

-- what stands between `&` and `;` is read as its byte
named_reads : (reference : List ℕ) (b : ℕ) (rest : List ℕ) → list_all is_inside reference ≡ true → byte_named reference ≡ b → read_on None ((38 ∷ (reference ++ 59 ∷ [])) ++ rest) ≡ b ∷ read_on None rest
unfolding read_on
named_reads reference b rest inside named =
    ap (read_on (Some [])) (append_assoc reference (59 ∷ []) rest)
    ∙ (reference_reads reference [] rest inside
    ∙ ap (λ n. n ∷ read_on None rest) named)

sign_is_named : (b : ℕ) → b < 256 → byte_named (35 ∷ decimal (9216 + b)) ≡ b
sign_is_named b h =
    let back : 9216 + b - 9216 ≡ b = omega arith in
    ap byte_numbered (number_spelled-decimal (9216 + b) (omega arith)) ∙ back

unnamed_reads : (seen : Bool) (b : ℕ) (rest : List ℕ) → b < 256 → not (b == 38) ≡ true → read_on None (unnamed seen b ++ rest) ≡ b ∷ read_on None rest
unfolding read_on
unnamed_reads true b rest low h = ap (λ t. if t then read_on (Some []) rest else b ∷ read_on None rest) (not-true (b == 38) h)
unnamed_reads false b rest low h = named_reads (35 ∷ decimal (9216 + b)) b rest (decimal_passes is_inside (9216 + b) (omega arith) digit_is_inside) (sign_is_named b low)

written_reads : (name : Option (List ℕ)) (b : ℕ) (rest : List ℕ) → b < 256 → is_read name b ≡ true → read_on None (written name b ++ rest) ≡ b ∷ read_on None rest
written_reads (Some name) b rest low h =
    let parts = both (list_all is_inside name) (byte_named name == b) h in
    named_reads name b rest parts.0 (eqb-true (byte_named name) b parts.1)
written_reads None b rest low h = unnamed_reads (is_seen b) b rest low h

pub escaped_again : (text : List ℕ) → All (λ b. b < 256) text → read_again (escaped_text text) ≡ text
unfolding read_on
escaped_again [] h = refl
escaped_again (b ∷ text) h =
    let low = All-head (λ b. b < 256) b text h in
    written_reads (name_of b) b (escaped_text text) low (each_is_read b low)
    ∙ ap (λ r. b ∷ r) (escaped_again text (All-tail (λ b. b < 256) b text h))
