-- Fields have no LF, no space and no `;`, so a line is cut where it was put together.
use Rattle.std.proofs.Common.{◌≡◌, ◌≢◌, ◌<◌, ◌^◌, ◌/◌, ◌%◌, ℕ, zero, suc, Bool, true, false, List, [], ◌∷◌, ◌++◌, slice_index, decimal, refl, ap, sym, ◌∙◌, arith}
use Rattle.std.specs.Prelude.{◌&&◌, ◌==◌, not}
use Rattle.std.specs.List.{list_all}
use Rattle.std.specs.Char.{is_ascii_digit}
use Rattle.std.specs.Str.{all_ascii_digits}
use Rattle.std.proofs.lemmas.Bool.{and_parts, false≢true}
use Rattle.std.proofs.lemmas.Bool.Decides.{nat_tests}
use Rattle.std.proofs.lemmas.Fmt.{digits_decimal}
use Rattle.std.proofs.lemmas.List.Elements.{All-cons, All-nil}
use Rattle.std.proofs.lemmas.List.Folds.{list_all-append}
use Rattle.std.proofs.lemmas.List.Sums.{list_all-from_AllPass}
use Rattle.std.specs.Int.{w64, to_be_bytes}
use Rattle.hex.specs.Hex.{encode_with, lower_digits}
use Rattle.dom_text.proofs.Spelling.{own}
use Rattle.uid_names.specs.Names.{ObjectName, number_of}
use Rattle.uid_names.specs.NameTexts.{IsNameText, is_name_byte}
use Rattle.uid_names.specs.Texts.{text_of}
use Rattle.uid_names.specs.FrameKinds.{kind_name}
use Rattle.uid_names.specs.declared.frame_kind.FrameKind.{FrameKind}
use Rattle.uid_names.specs.declared.frame_kind.FrameKind.TheVariants as kinds
use Rattle.dom_history.specs.EndWords.{word_text}
use Rattle.dom_history.specs.declared.end_word.EndWord.{EndWord}
use Rattle.dom_history.specs.declared.end_word.EndWord.TheVariants as ends
use Rattle.dom_text.specs.Cuts.{Lacks}

-- a byte that may stand in a field
abbrev pub is_plain : ℕ → Bool
is_plain b = not (b == 10) && (not (b == 32) && not (b == 59))

abbrev pub plain : List ℕ → Bool
plain text = list_all is_plain text

-- a byte that may stand between two `;`
abbrev pub is_inner : ℕ → Bool
is_inner b = not (b == 10) && not (b == 59)

abbrev pub inner : List ℕ → Bool
inner text = list_all is_inner text

-- a byte that doesn't pass the test isn't there
pub lacks : (p : ℕ → Bool) (c : ℕ) → p c ≡ false → (text : List ℕ) → list_all p text ≡ true → Lacks c text
lacks p c never [] h = All-nil (λ b. b ≢ c)
lacks p c never (b ∷ text) h =
    let parts = and_parts (p b) (list_all p text) h in
    let other : b ≢ c = λ e. false≢true (sym never ∙ ap p (sym e) ∙ parts.0) in
    All-cons (λ b. b ≢ c) b text other (lacks p c never text parts.1)

pub weaker : (p q : ℕ → Bool) → ((b : ℕ) → p b ≡ true → q b ≡ true) → (text : List ℕ) → list_all p text ≡ true → list_all q text ≡ true
weaker p q more [] h = refl
weaker p q more (b ∷ text) h =
    let parts = and_parts (p b) (list_all p text) h in
    rw (more b parts.0, weaker p q more text parts.1) refl

pub both : (p : ℕ → Bool) (x y : List ℕ) → list_all p x ≡ true → list_all p y ≡ true → list_all p (x ++ y) ≡ true
both p x y hx hy = list_all-append p x y ∙ rw (hx, hy) refl

inner_byte : (b : ℕ) → is_plain b ≡ true → is_inner b ≡ true
inner_byte b h = grind (arith, h)

pub inner-plain : (text : List ℕ) → plain text ≡ true → inner text ≡ true
inner-plain text h = weaker is_plain is_inner inner_byte text h

-- ---- the fields

digit_byte : (b : ℕ) → is_ascii_digit b ≡ true → is_plain b ≡ true
digit_byte b h = grind (arith, nat_tests, h)

digits_pass : (text : List ℕ) → all_ascii_digits text ≡ true → list_all is_ascii_digit text ≡ true
digits_pass [] h = refl
digits_pass (b ∷ text) h =
    let parts = and_parts (is_ascii_digit b) (all_ascii_digits text) h in
    rw (parts.0, digits_pass text parts.1) refl

pub plain-decimal : (n : ℕ) → n < 2 ^ 64 → plain (decimal n) ≡ true
plain-decimal n h = weaker is_ascii_digit is_plain digit_byte (decimal n) (digits_pass (decimal n) (digits_decimal own n h))

name_byte : (b : ℕ) → is_name_byte b ≡ true → is_plain b ≡ true
name_byte b h = grind (arith, nat_tests, h)

pub plain-name : (name : List ℕ) → IsNameText name → plain name ≡ true
plain-name name is = weaker is_name_byte is_plain name_byte name (list_all-from_AllPass is_name_byte name is.bytes)

plain_at : (t : List ℕ) (d : ℕ) → plain t ≡ true → is_plain (slice_index t d) ≡ true
plain_at [] d h = refl
plain_at (b ∷ t) zero h = (and_parts (is_plain b) (plain t) h).0
plain_at (b ∷ t) (suc d) h = plain_at t d (and_parts (is_plain b) (plain t) h).1

plain-encode : (t bytes : List ℕ) → plain t ≡ true → plain (encode_with t bytes) ≡ true
unfolding encode_with
plain-encode t [] h = refl
plain-encode t (b ∷ bytes) h = rw (plain_at t (b / 16) h, plain_at t (b % 16) h, plain-encode t bytes h) refl

pub plain-uid : (u : ObjectName) → plain (text_of u) ≡ true
plain-uid u = plain-encode lower_digits (to_be_bytes w64 (number_of u)) refl

pub plain-kind : (k : FrameKind) → plain (kind_name k) ≡ true
plain-kind kinds.PageIn = refl
plain-kind kinds.PageOut = refl
plain-kind kinds.AttrOut = refl
plain-kind kinds.Lock = refl
plain-kind kinds.Unlock = refl
plain-kind kinds.Remove = refl
plain-kind kinds.Make = refl
plain-kind kinds.List = refl
plain-kind kinds.Page = refl
plain-kind kinds.Stored = refl
plain-kind kinds.Stale = refl
plain-kind kinds.NoGrant = refl
plain-kind kinds.NoObject = refl
plain-kind kinds.Granted = refl
plain-kind kinds.Conflict = refl
plain-kind kinds.Done = refl
plain-kind kinds.Made = refl
plain-kind kinds.NoSpace = refl
plain-kind kinds.Listed = refl

pub plain-end : (w : EndWord) → plain (word_text w) ≡ true
plain-end ends.Fine = refl
plain-end ends.Conflict = refl
plain-end ends.NoObject = refl
plain-end ends.AlreadyHeld = refl
plain-end ends.NotHeld = refl
plain-end ends.Unsettled = refl
plain-end ends.TooMany = refl
plain-end ends.NoLock = refl
plain-end ends.WrongMode = refl
plain-end ends.PastRoom = refl
plain-end ends.PastEnd = refl
plain-end ends.NoSpace = refl
plain-end ends.Kept = refl
plain-end ends.Doubt = refl
plain-end ends.LinkFault = refl
plain-end ends.TooManyMaps = refl
plain-end ends.NoSegment = refl
plain-end ends.NotMapped = refl
