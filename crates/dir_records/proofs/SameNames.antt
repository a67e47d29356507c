-- When two names are the same.
use Rattle.std.proofs.Common.{◌≡◌, ◌≢◌, ℕ, ◌-◌, List, length, take, false, ap, ◌∙◌, sym, replicate}
use Rattle.std.proofs.Math.Seq.{take-append_seam}
use Rattle.std.proofs.lemmas.Bool.Decides.{same_from_decides, Decides-like}
use Rattle.std.proofs.lemmas.Slice.Eq.{bytes_eq-Decides}
use Rattle.std.specs.Prelude.{bytes_eq}
use Rattle.uid_names.proofs.TextTables.{bytes_eq-false}
use Rattle.dir_records.specs.Components.{filled, IsPadded}
use Rattle.dir_records.specs.Padding.{name_length}
use Rattle.dir_records.specs.Marks.{word_at}

-- names that are filled up to the same bytes are the same, if they are as long
same_name : (a b : List ℕ) → length a ≡ length b → filled a ≡ filled b → a ≡ b
same_name a b size same =
    sym (take-append_seam a (replicate (32 - length a) 0))
    ∙ ap (take (length a)) same
    ∙ ap (λ (n : ℕ). take n (filled b)) size
    ∙ take-append_seam b (replicate (32 - length b) 0)

-- names of one length are compared by the bytes that they are filled up to
pub by_filled : (a b : List ℕ) → length a ≡ length b → bytes_eq (filled a) (filled b) ≡ bytes_eq a b
by_filled a b size = same_from_decides _ _ (Decides-like _ (same_name a b size) (ap filled) (bytes_eq-Decides (filled a) (filled b))) (bytes_eq-Decides a b)

-- names that differ in their first words, or in their lengths, differ
pub by_words : (a b : List ℕ) → word_at 0 (filled a) ≢ word_at 0 (filled b) → bytes_eq a b ≡ false
by_words a b h = bytes_eq-false a b (λ same. h (ap (λ (name : List ℕ). word_at 0 (filled name)) same))

pub by_lengths : (a b : List ℕ) → length a ≢ length b → bytes_eq a b ≡ false
by_lengths a b h = bytes_eq-false a b (λ same. h (ap (λ (name : List ℕ). length name) same))

-- a name is as long as its bytes say
pub length_is : (bytes name : List ℕ) (n : ℕ) → IsPadded bytes n → take n bytes ≡ name → length name ≡ n
length_is bytes name n h e = ap (λ (l : List ℕ). length l) (sym e) ∙ name_length bytes n h
