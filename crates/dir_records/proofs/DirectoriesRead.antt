-- What is known of a directory that was read.
use Rattle.std.proofs.Common.{◌≡◌, ℕ, zero, suc, ◌+◌, ◌/◌, ◌<◌, ◌≤◌, Bool, true, false, cond, Option, Some, None, List, [], ◌∷◌, drop, length, refl, ap, ◌∙◌, subst, arith}
use Rattle.std.specs.Prelude.{bytes_eq, IfSome}
use Rattle.std.specs.Simd.{first_chunks}
use Rattle.dir_records.specs.Wholes.{before}
use Rattle.dir_records.specs.Records.{Slot, slot_of}
use Rattle.dir_records.specs.Directories.{slots_of, are_apart, if_apart, is_long, directory_of, placed_from, placed_row, IsDirectory}

chunks_count : (k : ℕ) (bytes : List ℕ) → length (first_chunks 64 k bytes) ≡ k
chunks_count zero bytes = refl
chunks_count (suc k) bytes = ap suc (chunks_count k (drop 64 bytes))

before_count : (slot : Option Slot) (rest : Option (List Slot)) (slots : List Slot) (n : ℕ) → before slot rest ≡ Some slots → ((more : List Slot) → rest ≡ Some more → length more ≡ n) → length slots ≡ suc n
before_count None rest slots n e h = grind (arith, e)
before_count (Some slot) None slots n e h = grind (arith, e)
before_count (Some slot) (Some more) slots n e h =
    let same : slot ∷ more ≡ slots = grind (arith, e) in
    subst (λ (l : List Slot). length l ≡ suc n) same (ap suc (h more refl))

slots_count : (records : List (List ℕ)) (slots : List Slot) → slots_of records ≡ Some slots → length slots ≡ length records
slots_count [] slots e = grind (arith, e)
slots_count (record_bytes ∷ rest) slots e = before_count (slot_of record_bytes) (slots_of rest) slots (length rest) e (λ more f. slots_count rest more f)

if_long : (long : Bool) (n : ℕ) (some : Option (List Slot)) (slots : List Slot) → is_long n ≡ long → cond long some None ≡ Some slots → (n ≤ 8192) × (some ≡ Some slots)
if_long true n some slots l e = (grind (arith, l), e)
if_long false n some slots l e = absurd (grind (arith, e))

by_apart : (apart : Bool) (read slots : List Slot) → are_apart read ≡ apart → cond apart (Some read) None ≡ Some slots → (read ≡ slots) × (are_apart slots ≡ true)
by_apart true read slots a e =
    let same : read ≡ slots = grind (arith, e) in
    (same, subst (λ (l : List Slot). are_apart l ≡ true) same a)
by_apart false read slots a e = absurd (grind (arith, e))

by_slots : (read : Option (List Slot)) (slots : List Slot) → if_apart read ≡ Some slots → (read ≡ Some slots) × (are_apart slots ≡ true)
by_slots None slots e = absurd (grind (arith, e))
by_slots (Some read) slots e = let both = by_apart (are_apart read) read slots refl e in (ap (λ (l : List Slot). Some l) both.0, both.1)

-- a directory that was read has at most 128 records, and their names are apart
pub directory_read : (bytes : List ℕ) (slots : List Slot) → directory_of bytes ≡ Some slots → IsDirectory slots
directory_read bytes slots e =
    let long = if_long (is_long (length bytes)) (length bytes) (if_apart (slots_of (first_chunks 64 (length bytes / 64) bytes))) slots refl e in
    let read = by_slots (slots_of (first_chunks 64 (length bytes / 64) bytes)) slots long.1 in
    let count = slots_count (first_chunks 64 (length bytes / 64) bytes) slots read.0 ∙ chunks_count (length bytes / 64) bytes in
    record { few = few (length bytes) (length slots) count long.0; apart = read.1 }
  where
    few : (n k : ℕ) → k ≡ n / 64 → n ≤ 8192 → k ≤ 128
    few n k e h = omega (arith, e, h)

from_within : (i n : ℕ) (name : List ℕ) (slots : List Slot) → i + length slots ≤ n → IfSome (placed_from i name slots) (λ f. f.0 < n)
from_within i n name [] h = tt
from_within i n name (None ∷ slots) h = from_within (i + 1) n name slots (omega (arith, h))
from_within i n name (Some row ∷ slots) h = by_test (bytes_eq row.name name) (from_within (i + 1) n name slots (omega (arith, h)))
  where
    by_test : (t : Bool) → IfSome (placed_from (i + 1) name slots) (λ f. f.0 < n) → IfSome (cond t (Some (i, row)) (placed_from (i + 1) name slots)) (λ f. f.0 < n)
    by_test true rest = omega (arith, h)
    by_test false rest = rest

-- a name's record is one of them
pub placed_within : (name : List ℕ) (slots : List Slot) → length slots ≤ 128 → IfSome (placed_row name slots) (λ f. f.0 < 128)
placed_within name slots h = from_within 0 128 name slots (omega (arith, h))
